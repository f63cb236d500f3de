use Rattle.run_laws.proofs.LogLemmas.{log-bound, log-legal}
use Rattle.run_laws.proofs.laws.logs_are_legal.Goals as goal

pub returns-clause-legal : goal.returns-clause-legal
returns-clause-legal c = log-legal

pub returns-clause-bound : goal.returns-clause-bound
returns-clause-bound c = log-bound
