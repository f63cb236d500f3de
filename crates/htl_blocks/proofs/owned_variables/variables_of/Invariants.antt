use Rattle.std.proofs.Common.{◌≡◌, take}
use Rattle.htl_expr.specs.Bindings.{with_vars}
use Rattle.htl_blocks.specs.Pieces.{within}
use Rattle.htl_blocks.proofs.owned_variables.variables_of.Given as goal

abbrev pub invariant-loop-round : goal.invariant-loop-round
invariant-loop-round l = (l.of ≡ l.fn.scope) × (with_vars l.fn.scope l.all ≡ within l.fn.scope (take l.round-index l.round-items))
