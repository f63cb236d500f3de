use Rattle.coherence_core.proofs.TieLemmas.{hit_of_stamp}
use Rattle.coherence_core.proofs.laws.stamps_are_of_flights_and_flushes.Goals as goal

pub returns-clause-page : goal.returns-clause-page
returns-clause-page c = λ found files core log key page s good is fresh low. s.stands.tied.pages key page good is fresh low

pub returns-clause-hit : goal.returns-clause-hit
returns-clause-hit c = hit_of_stamp

pub returns-clause-folder : goal.returns-clause-folder
returns-clause-folder c = λ found files core log folder stamp s good is low. s.stands.tied.stats folder stamp good is low
