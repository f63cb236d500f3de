use Rattle.block_laws.proofs.TagLemmas.{tag_found, tag_only}
use Rattle.block_laws.proofs.laws.a_tag_is_its_pieces_and_statements.Goals as goal

pub returns-clause-found : goal.returns-clause-found
returns-clause-found c = tag_found

pub returns-clause-only : goal.returns-clause-only
returns-clause-only c = tag_only
