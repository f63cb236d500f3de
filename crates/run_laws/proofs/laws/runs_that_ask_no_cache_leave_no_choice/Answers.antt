use Rattle.run_laws.proofs.UncachedRunLemmas.{uncached-runs}
use Rattle.run_laws.proofs.laws.runs_that_ask_no_cache_leave_no_choice.Goals as goal

pub returns : goal.returns
returns c = uncached-runs
