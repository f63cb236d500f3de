use Rattle.std.proofs.Common.{refl, rules, arith}
use Rattle.std.proofs.lemmas.Result.{err_from_is_err_and}
use Rattle.htl_expr.specs.Lent.{plain_item}
use Rattle.htl_expr.proofs.Joined.{item_stops_is, item_written_is}
use Rattle.htl_expr.proofs.print.+print.Goals as goal

pub push_items-returns-in_err-push_next_item : goal.push_items-returns-in_err-push_next_item
push_items-returns-in_err-push_next_item t c =
    let p = err_from_is_err_and c.from_residual.result c.from_residual.ensures.1 in
    rw (p.1, p.2) (item_stops_is c.args.most _ c.args.context c.args.join.now _ _ _ _ plain_item c.args.items.now c.loop-item.item-index c.item-item.result c.loop-item-test.true c.item-item.is c.loop-item.invariant.3 c.loop-item.invariant.4 c.loop-item.invariant.1 c.in_err-push_next_item.ensures)

pub push_items-loop-item-preserved : goal.push_items-loop-item-preserved
push_items-loop-item-preserved t c =
    let written = item_written_is c.args.context c.args.join.now _ _ _ _ plain_item c.args.items.now c.loop-item.item-index c.item-item.result c.loop-item-test.true c.item-item.is c.loop-item.invariant.3 c.loop-item.invariant.4 c.loop-item.invariant.1 c.in_ok-push_next_item.ensures.0 in
    (search rules, written, c.in_ok-push_next_item.ensures.1, λ e. absurd (omega (arith, e)), λ _. refl)
