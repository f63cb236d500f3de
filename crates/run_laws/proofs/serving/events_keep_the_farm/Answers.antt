use Rattle.run_laws.proofs.LogLemmas.{run-farm}
use Rattle.run_laws.proofs.serving.events_keep_the_farm.Goals as goal

pub returns-clause-farm : goal.returns-clause-farm
returns-clause-farm c = λ w events. (run-farm w events).farm

pub returns-clause-found : goal.returns-clause-found
returns-clause-found c = λ w events. (run-farm w events).found
