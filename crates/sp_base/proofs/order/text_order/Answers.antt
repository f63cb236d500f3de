use Rattle.std.proofs.Common.{◌∙◌, ◌≢◌, sym, get_or, arith}
use Rattle.sp_base.proofs.PathOrder.{order_more, order_found, order_ended}
use Rattle.sp_base.proofs.order.text_order.Goals as goal
use Rattle.sp_base.proofs.order.text_order.Goals.{then-loop-at-test+else-text-at, else-loop-at-test}

pub loop-at-preserved : goal.loop-at-preserved
loop-at-preserved c =
    (order_more c.args.text.now c.args.other.now c.loop-at.at (omega arith) (omega arith) c.if-text-at.true ∙ c.loop-at.invariant.0, omega arith)

pub returns-then-at-both : goal.returns-then-at-both
returns-then-at-both c =
    let a = c.args.text.now in
    let b = c.args.other.now in
    let n = c.loop-at.at in
    let differ : get_or a n 0 ≢ get_or b n 0 = elim c.loop-at-test.branch [
      | then-loop-at-test+else-text-at w ↦ w.if-text-at.false
      | else-loop-at-test w ↦ absurd (omega arith)
    ] in
    c.byte_order.ensures ∙ sym (order_found a b n (omega arith) (omega arith) differ) ∙ c.loop-at.invariant.0

pub returns-else-at-both : goal.returns-else-at-both
returns-else-at-both c =
    c.cmp.ensures ∙ sym (order_ended c.args.text.now c.args.other.now c.loop-at.at (omega arith)) ∙ c.loop-at.invariant.0
