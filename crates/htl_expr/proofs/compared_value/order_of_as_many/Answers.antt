use Rattle.std.proofs.Common.{◌≡◌, [], length, arith, sym, ◌∙◌}
use Rattle.std.specs.Cmp.Lexicographic.{slice_cmp}
use Rattle.std.specs.Ordering.{nat_cmp}
use Rattle.htl_expr.specs.ComparedValue.{texts_of}
use Rattle.htl_expr.proofs.Places.{same_here, differs_here, both_end}
use Rattle.htl_expr.proofs.compared_value.order_of_as_many.Goals as goal

pub loop-place-preserved : goal.loop-place-preserved
loop-place-preserved c =
    let known = c.loop-place.invariant in (
      known.0,
      same_here (slice_cmp nat_cmp) (texts_of c.args.a.now) (texts_of c.args.b.now) c.loop-place.place [] c.order_at-order.result _ (omega (arith, known.0, c.loop-place-test.true)) (omega (arith, known.0, c.requires, c.loop-place-test.true))
          c.order_at-order.ensures (sym c.is_ne.ensures ∙ c.if-is_ne.false) known.1,
    )

pub returns-then-is_ne : goal.returns-then-is_ne
returns-then-is_ne c =
    let known = c.loop-place.invariant in
    differs_here (slice_cmp nat_cmp) (texts_of c.args.a.now) (texts_of c.args.b.now) c.loop-place.place [] c.order_at-order.result _ (omega (arith, known.0, c.loop-place-test.true)) (omega (arith, known.0, c.requires, c.loop-place-test.true))
    c.order_at-order.ensures (sym c.is_ne.ensures ∙ c.if-is_ne.true) known.1

pub returns : goal.returns
returns c =
    let known = c.loop-place.invariant in
    let place : c.loop-place.place ≡ length (texts_of c.args.a.now) = omega (arith, known.0, c.loop-place.auto.place-end, c.loop-place-test.false) in
    both_end (slice_cmp nat_cmp) (texts_of c.args.a.now) (texts_of c.args.b.now) c.loop-place.place _ place (place ∙ c.requires) known.1
