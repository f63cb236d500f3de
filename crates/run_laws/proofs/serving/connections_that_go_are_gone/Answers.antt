use Rattle.run_laws.proofs.AddressLemmas.{step-gone}
use Rattle.run_laws.proofs.serving.connections_that_go_are_gone.Goals as goal

pub returns : goal.returns
returns c = λ w e q happens is. step-gone w e q e.step is happens.0
