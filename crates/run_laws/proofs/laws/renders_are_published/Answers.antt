use Rattle.run_laws.proofs.RenderLemmas.{renders-published}
use Rattle.run_laws.proofs.laws.renders_are_published.Goals as goal

pub returns : goal.returns
returns c = renders-published
