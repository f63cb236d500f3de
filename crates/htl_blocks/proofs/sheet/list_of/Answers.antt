use Rattle.htl_blocks.proofs.SheetSteps.{finished_text, finished_inclusions}
use Rattle.htl_blocks.proofs.sheet.list_of.Goals as goal

pub returns-clause-text : goal.returns-clause-text
returns-clause-text c = finished_text c.same_scope.result c.into_pieces-all.result c.into_pieces-all.ensures.text

pub returns-clause-inclusions : goal.returns-clause-inclusions
returns-clause-inclusions c = finished_inclusions c.same_scope.result c.into_pieces-all.result c.into_pieces-all.ensures.inclusions
