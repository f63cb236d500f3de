use Rattle.std.proofs.lemmas.Result.{err_from_is_err_and}
use Rattle.std.specs.Fmt.{signed_decimal}
use Rattle.htl_expr.proofs.Joined.{item_stops}
use Rattle.htl_expr.proofs.lists.push_longs.Goals as goal

pub returns-in_err-push_next_long : goal.returns-in_err-push_next_long
returns-in_err-push_next_long c =
    let p = err_from_is_err_and c.from_residual.result c.from_residual.ensures.1 in
    rw (p.1, p.2) (item_stops c.args.most _ c.args.context c.args.join.now _ _ _ _ signed_decimal c.args.items.now c.loop-item.item-index _ c.loop-item-test.true c.loop-item.invariant.3 c.loop-item.invariant.4 c.loop-item.invariant.1 c.in_err-push_next_long.ensures)
