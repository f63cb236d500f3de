use Rattle.publisher.proofs.StatusLemmas.{not_allowed_fits}
use Rattle.publisher.proofs.held_content.HeldContent.answer.Goals as goal

pub returns-clause-fits : goal.returns-clause-fits
returns-clause-fits c = not_allowed_fits c.error_answer.result c.error_answer.ensures
