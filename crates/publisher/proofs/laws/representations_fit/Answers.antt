use Rattle.publisher.proofs.RenderingLemmas.{rendered_fits}
use Rattle.publisher.proofs.laws.representations_fit.Goals as goal

pub returns : goal.returns
returns c = rendered_fits
