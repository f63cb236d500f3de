use Rattle.publisher.proofs.RenderingLemmas.{fits_as, text_fits}
use Rattle.publisher.proofs.held_content.HeldContent.read_answer.Goals as goal

pub returns-in-Inside-clause-fits : goal.returns-in-Inside-clause-fits
returns-in-Inside-clause-fits c = fits_as _ _ (text_fits _ _) c.text_answer.ensures.answer
