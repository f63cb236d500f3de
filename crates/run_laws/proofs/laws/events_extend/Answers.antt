use Rattle.run_laws.proofs.RunLemmas.{after_run_push, run_push}
use Rattle.run_laws.proofs.laws.events_extend.Goals as goal

pub returns-clause-run : goal.returns-clause-run
returns-clause-run c = run_push

pub returns-clause-state : goal.returns-clause-state
returns-clause-state c = after_run_push
