use Rattle.publisher.proofs.StatusLemmas.{refused_fits}
use Rattle.publisher.proofs.held_content.HeldContent.posting.Goals as goal

pub returns-in-Err-Status-clause-fits : goal.returns-in-Err-Status-clause-fits
returns-in-Err-Status-clause-fits c = refused_fits c.error_answer.result _ _ _ _ _ c.in-Err-Status.field-0-is c.in-Err-Status.ensures.err c.error_answer.ensures
