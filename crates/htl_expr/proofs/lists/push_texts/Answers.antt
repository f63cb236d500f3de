use Rattle.std.proofs.Common.{refl, rules, arith}
use Rattle.std.proofs.lemmas.Result.{err_from_is_err_and}
use Rattle.htl_expr.specs.Writing.{itself}
use Rattle.htl_expr.proofs.Joined.{item_stops_is, item_written_is}
use Rattle.htl_expr.proofs.lists.push_texts.Goals as goal

pub returns-in_err-push_next_text : goal.returns-in_err-push_next_text
returns-in_err-push_next_text c =
    let p = err_from_is_err_and c.from_residual.result c.from_residual.ensures.1 in
    rw (p.1, p.2) (item_stops_is c.args.most _ c.args.context c.args.join.now _ _ _ _ itself c.args.items.now c.loop-item.item-index c.item-item.result c.loop-item-test.true c.item-item.is c.loop-item.invariant.3 c.loop-item.invariant.4 c.loop-item.invariant.1 c.in_err-push_next_text.ensures)

pub loop-item-preserved : goal.loop-item-preserved
loop-item-preserved c =
    let written = item_written_is c.args.context c.args.join.now _ _ _ _ itself c.args.items.now c.loop-item.item-index c.item-item.result c.loop-item-test.true c.item-item.is c.loop-item.invariant.3 c.loop-item.invariant.4 c.loop-item.invariant.1 c.in_ok-push_next_text.ensures.0 in
    (search rules, written, c.in_ok-push_next_text.ensures.1, λ e. absurd (omega (arith, e)), λ _. refl)
