use Rattle.serve_loop.proofs.TotalLemmas.{failures_are_counted as sums}
use Rattle.serve_loop.proofs.laws.failures_are_counted.Goals as goal

pub returns : goal.returns
returns c = sums
