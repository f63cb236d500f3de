use Rattle.cache_log.proofs.HitLemmas.{clear-none-done, clear-unfinished}
use Rattle.cache_log.proofs.laws.no_flush_covers_a_clear_flight.Goals as goal

pub returns-clause-unfinished : goal.returns-clause-unfinished
returns-clause-unfinished c = clear-unfinished

pub returns-clause-done : goal.returns-clause-done
returns-clause-done c = clear-none-done
