use Rattle.cache_log.proofs.PlaceLemmas.{done-placed, flying-placed, placed-done, placed-flying, placed-unfinished, unfinished-placed}
use Rattle.cache_log.proofs.laws.flights_and_flushes_are_at_places.Goals as goal

pub returns-clause-unfinished : goal.returns-clause-unfinished
returns-clause-unfinished c = λ log flush inv. (unfinished-placed log flush inv, placed-unfinished log flush inv)

pub returns-clause-done : goal.returns-clause-done
returns-clause-done c = λ log inv. (done-placed log inv, placed-done log inv)

pub returns-clause-flying : goal.returns-clause-flying
returns-clause-flying c = λ log flight key. (flying-placed log flight key, placed-flying log flight key)
