use Rattle.cache_log.proofs.ClearLemmas.{clear-placed, placed-clear}
use Rattle.cache_log.proofs.laws.clear_flights_are_clear.Goals as goal

pub returns : goal.returns
returns c = λ farm log flight key. (clear-placed farm log flight key, placed-clear farm log flight key)
