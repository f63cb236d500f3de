use Rattle.run_laws.proofs.BroughtLemmas.{ends-told}
use Rattle.run_laws.proofs.laws.steps_tell_the_ends_of_streams.Goals as goal

pub returns : goal.returns
returns c = ends-told
