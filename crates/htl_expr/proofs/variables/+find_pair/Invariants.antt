use Rattle.std.proofs.Common.{length}
use Rattle.htl_expr.proofs.variables.+find_pair.Given as goal

abbrev pub decreases-find_pair : goal.decreases-find_pair
decreases-find_pair l = length l.pairs.now
