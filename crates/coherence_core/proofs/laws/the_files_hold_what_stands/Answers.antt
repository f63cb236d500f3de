use Rattle.coherence_core.proofs.StartLemmas.{held}
use Rattle.coherence_core.proofs.laws.the_files_hold_what_stands.Goals as goal

pub returns-clause-holds : goal.returns-clause-holds
returns-clause-holds c = held

pub returns-clause-bound : goal.returns-clause-bound
returns-clause-bound c = λ found files core log s. s.slices.bound
