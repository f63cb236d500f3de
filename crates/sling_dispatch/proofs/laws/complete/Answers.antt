use Rattle.sling_dispatch.proofs.Completeness.{complete as law}
use Rattle.sling_dispatch.proofs.Servable.{numbered, served}
use Rattle.sling_dispatch.proofs.laws.complete.Goals as goal

pub returns-clause-replay : goal.returns-clause-replay
returns-clause-replay c = law c.one_reading.ensures

pub returns-clause-serve : goal.returns-clause-serve
returns-clause-serve c = served

pub returns-clause-numbered : goal.returns-clause-numbered
returns-clause-numbered c = numbered
