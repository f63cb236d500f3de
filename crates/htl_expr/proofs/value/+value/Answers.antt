use Rattle.std.proofs.Common.{◌≡◌, ◌∙◌, Bor, List, IfOk, map, arith, sym, ap, subst}
use Rattle.std.proofs.lemmas.List.{take_all}
use Rattle.htl_syntax.specs.declared.node.ExprNode.{ExprNode}
use Rattle.htl_expr.specs.declared.out.Out.{Out}
use Rattle.htl_expr.specs.declared.out.Out.TheVariants as out
use Rattle.htl_expr.specs.Bindings.{with_vars}
use Rattle.htl_expr.specs.Lent.{out_of_lent, plain_item, listed_texts}
use Rattle.htl_expr.specs.Pieces.{HavePieces}
use Rattle.htl_expr.specs.Value.{value, item_texts}
use Rattle.htl_expr.specs.Variables.{vars_of}
use Rattle.htl_expr.proofs.Chains.{and_goes_on, or_goes_on, items_out, item_texts_are}
use Rattle.htl_expr.proofs.Items.{one_item_more}
use Rattle.htl_expr.proofs.Trees.{truth_out, compare_whole, and_whole, or_whole, choice_then, choice_else, items_go_on, same_with_vars}
use Rattle.htl_expr.proofs.value.+value.Goals.{value-then-is_true, value-else-is_true}
use Rattle.htl_expr.proofs.value.+value.Goals as goal

pub and_values-loop-operand-preserved : goal.and_values-loop-operand-preserved
and_values-loop-operand-preserved t c =
    let known = c.loop-operand.invariant in (
      c.in_ok-last.ensures.scope ∙ known.0,
      rw known.0 at c.in_ok-last.ensures.operand,
      and_goes_on (value (with_vars c.args.scope.now (vars_of c.args.vars.now))) c.args.more.now c.loop-operand.operand-index c.operand-item.result _ _ _ c.loop-operand-test.true c.operand-item.is (rw known.0 at c.in_ok-last.ensures.value) known.2,
    )

pub or_values-loop-operand-preserved : goal.or_values-loop-operand-preserved
or_values-loop-operand-preserved t c =
    let known = c.loop-operand.invariant in (
      c.in_ok-last.ensures.scope ∙ known.0,
      rw known.0 at c.in_ok-last.ensures.operand,
      or_goes_on (value (with_vars c.args.scope.now (vars_of c.args.vars.now))) c.args.more.now c.loop-operand.operand-index c.operand-item.result _ _ _ c.loop-operand-test.true c.operand-item.is (rw known.0 at c.in_ok-last.ensures.value) known.2,
    )

pub list_value-loop-item-preserved : goal.list_value-loop-item-preserved
list_value-loop-item-preserved t c =
    let known = c.loop-item.invariant in
    let are = rw (c.value.ensures.scope ∙ known.0) at c.in_ok-pieces_of.ensures in (
      c.value.ensures.scope ∙ known.0,
      items_go_on (value (with_vars c.args.scope.now (vars_of c.args.vars.now))) c.args.items.now c.loop-item.item-index c.item-item.result c.loop-item.values _ c.in_ok-item.item.value c.loop-item-test.true c.item-item.is c.in_ok-push-2.ensures.ok (rw known.0 at c.in_ok-item.ensures.value) known.1,
      one_item_more c.args.scope.now plain_item c.loop-item.pieces c.push.new.self c.loop-item.values c.push-in-loop-item.new.self _ c.in_ok-item.item.value c.in_ok-push.ensures.ok c.in_ok-push-2.ensures.ok are known.2,
    )

pub list_value-returns-clause-value : goal.list_value-returns-clause-value
list_value-returns-clause-value t c =
    let whole = c.loop-item.invariant.1 ∙ ap (map (value (with_vars c.args.scope.now (vars_of c.args.vars.now)))) (take_all c.loop-item.item-index c.args.items.now (omega arith)) in
    items_out c.loop-item.values ∙ ap out.List (sym (item_texts_are c.loop-item.values)) ∙ ap (λ (os : List Out). out.List (item_texts os)) whole

pub list_value-returns-clause-operand : goal.list_value-returns-clause-operand
list_value-returns-clause-operand t c = subst (λ (o : Out). HavePieces c.args.scope.now c.loop-item.pieces (listed_texts o)) (sym (items_out c.loop-item.values)) c.loop-item.invariant.2

pub value-returns-in_ok-first-in-And-clause-value : goal.value-returns-in_ok-first-in-And-clause-value
value-returns-in_ok-first-in-And-clause-value t c =
    let vars = vars_of c.args.vars.now in
    let whole = and_whole (with_vars c.args.scope.now vars) (with_vars c.value-in-And.new.scope vars) c.args.node.now c.in-And.first c.get-in-And.result.now c.in-And.more c.as_slice-in-And.result.now _ (same_with_vars vars _ _ c.value-in-And.ensures.scope) c.in-And.is c.get-in-And.ensures c.as_slice-in-And.ensures c.in_ok-first-in-And.ensures.value in
    subst (λ (o : Out). IfOk c.and_values.result (λ v. out_of_lent v.value ≡ o)) whole c.and_values.ensures.value

pub value-returns-in_ok-first-in-Or-clause-value : goal.value-returns-in_ok-first-in-Or-clause-value
value-returns-in_ok-first-in-Or-clause-value t c =
    let vars = vars_of c.args.vars.now in
    let whole = or_whole (with_vars c.args.scope.now vars) (with_vars c.value-in-Or.new.scope vars) c.args.node.now c.in-Or.first c.get-in-Or.result.now c.in-Or.more c.as_slice-in-Or.result.now _ (same_with_vars vars _ _ c.value-in-Or.ensures.scope) c.in-Or.is c.get-in-Or.ensures c.as_slice-in-Or.ensures c.in_ok-first-in-Or.ensures.value in
    subst (λ (o : Out). IfOk c.or_values.result (λ v. out_of_lent v.value ≡ o)) whole c.or_values.ensures.value

pub value-returns-after-is_true-clause-value : goal.value-returns-after-is_true-clause-value
value-returns-after-is_true-clause-value t c =
    let vars = vars_of c.args.vars.now in
    let s = with_vars c.args.scope.now vars in
    let whole : value (with_vars c.value-in-Choice.new.scope vars) c.get-in-Choice-2.result.now ≡ value s c.args.node.now = elim c.if-is_true.branch [
      | value-then-is_true w ↦ choice_then s (with_vars c.value-in-Choice.new.scope vars) c.args.node.now c.in-Choice.condition c.get-in-Choice.result.now c.in-Choice.a c.in-Choice.b c.get-in-Choice-2.result.now _ (same_with_vars vars _ _ c.value-in-Choice.ensures.scope) c.in-Choice.is c.get-in-Choice.ensures c.in_ok-condition-in-Choice.ensures.value (sym c.is_true.ensures ∙ w.if-is_true.true) (c.get-in-Choice-2.ensures ∙ ap (λ (r : Bor ExprNode). r.now) w.chosen-is)
      | value-else-is_true w ↦ choice_else s (with_vars c.value-in-Choice.new.scope vars) c.args.node.now c.in-Choice.condition c.get-in-Choice.result.now c.in-Choice.a c.in-Choice.b c.get-in-Choice-2.result.now _ (same_with_vars vars _ _ c.value-in-Choice.ensures.scope) c.in-Choice.is c.get-in-Choice.ensures c.in_ok-condition-in-Choice.ensures.value (sym c.is_true.ensures ∙ w.if-is_true.false) (c.get-in-Choice-2.ensures ∙ ap (λ (r : Bor ExprNode). r.now) w.chosen-is)
    ] in
    subst (λ (o : Out). IfOk c.value-in-Choice-2.result (λ v. out_of_lent v.value ≡ o)) whole c.value-in-Choice-2.ensures.value

pub value-returns-in_ok-holds-in-Compare-clause-value : goal.value-returns-in_ok-holds-in-Compare-clause-value
value-returns-in_ok-holds-in-Compare-clause-value t c =
    let vars = vars_of c.args.vars.now in
    let whole = compare_whole (with_vars c.args.scope.now vars) (with_vars c.value.new.scope vars) c.args.node.now c.in-Compare.a c.in-Compare.b c.get-in-Compare.result.now c.get-in-Compare-2.result.now c.in-Compare.comparison (out_of_lent c.in_ok-a-in-Compare.a.value) c.in_ok-holds-in-Compare.holds (same_with_vars vars _ _ c.value.ensures.scope) c.in-Compare.is c.get-in-Compare.ensures c.get-in-Compare-2.ensures c.in_ok-a-in-Compare.ensures.value c.in_ok-holds-in-Compare.ensures.holds in
    ap out_of_lent c.of-in-Compare.ensures.value ∙ truth_out c.in_ok-holds-in-Compare.holds ∙ whole
