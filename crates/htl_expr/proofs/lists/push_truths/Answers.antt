use Rattle.std.proofs.lemmas.Result.{err_from_is_err_and}
use Rattle.htl_expr.specs.Print.{truth_text}
use Rattle.htl_expr.proofs.Joined.{item_stops}
use Rattle.htl_expr.proofs.lists.push_truths.Goals as goal

pub returns-in_err-push_next_truth : goal.returns-in_err-push_next_truth
returns-in_err-push_next_truth c =
    let p = err_from_is_err_and c.from_residual.result c.from_residual.ensures.1 in
    rw (p.1, p.2) (item_stops c.args.most _ c.args.context c.args.join.now _ _ _ _ truth_text c.args.items.now c.loop-item.item-index _ c.loop-item-test.true c.loop-item.invariant.3 c.loop-item.invariant.4 c.loop-item.invariant.1 c.in_err-push_next_truth.ensures)
