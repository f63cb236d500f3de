use Rattle.std.proofs.Common.{◌≡◌, ◌+◌, length}
use Rattle.htl_expr.specs.Print.{reference_place}
use Rattle.htl_expr.proofs.escape.reference_place.Given as goal

abbrev pub invariant-loop-rest : goal.invariant-loop-rest
invariant-loop-rest l = (l.len + reference_place l.rest ≡ reference_place l.text) × (l.len + length l.rest ≡ length l.text)

abbrev pub decreases-loop-rest : goal.decreases-loop-rest
decreases-loop-rest l = length l.rest
