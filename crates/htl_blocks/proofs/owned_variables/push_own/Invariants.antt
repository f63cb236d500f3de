use Rattle.std.proofs.Common.{◌≡◌, ◌++◌, take}
use Rattle.htl_expr.specs.Variables.{lent_pairs}
use Rattle.htl_blocks.proofs.owned_variables.push_own.Given as goal

abbrev pub invariant-loop-pair : goal.invariant-loop-pair
invariant-loop-pair l = lent_pairs l.all ≡ lent_pairs l.fn.all ++ take l.pair-index l.pairs
