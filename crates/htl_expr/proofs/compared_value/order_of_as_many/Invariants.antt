use Rattle.std.proofs.Common.{◌≡◌, length, drop}
use Rattle.std.specs.Cmp.Lexicographic.{slice_cmp}
use Rattle.std.specs.Ordering.{nat_cmp}
use Rattle.htl_expr.specs.ComparedValue.{texts_of}
use Rattle.htl_expr.proofs.compared_value.order_of_as_many.Given as goal

abbrev pub invariant-loop-place : goal.invariant-loop-place
invariant-loop-place l =
    (l.texts ≡ length (texts_of l.a)) × (slice_cmp (slice_cmp nat_cmp) (drop l.place (texts_of l.a)) (drop l.place (texts_of l.b)) ≡ slice_cmp (slice_cmp nat_cmp) (texts_of l.a) (texts_of l.b))
