use Rattle.run_laws.proofs.NothingDueLemmas.{nothing-after, nothing-after-run, nothing-at-start}
use Rattle.run_laws.proofs.serving.events_leave_nothing_due.Goals as goal

pub returns-clause-start : goal.returns-clause-start
returns-clause-start c = nothing-at-start

pub returns-clause-event : goal.returns-clause-event
returns-clause-event c = nothing-after

pub returns-clause-run : goal.returns-clause-run
returns-clause-run c = nothing-after-run
