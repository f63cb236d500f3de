use Rattle.cache_log.proofs.OwedLemmas.{owed-placed, placed-owed}
use Rattle.cache_log.proofs.laws.owed_hits_are_of_landings.Goals as goal

pub returns : goal.returns
returns c = λ farm log key answer. (owed-placed farm key answer log, placed-owed farm key answer log)
