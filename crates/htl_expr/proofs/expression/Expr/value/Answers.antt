use Rattle.std.proofs.Common.{◌≡◌, IfOk, Option, subst, sym}
use Rattle.htl_syntax.specs.declared.node.ExprNode.{ExprNode}
use Rattle.htl_syntax.specs.declared.expression.Expression.{Expression}
use Rattle.htl_expr.specs.Bindings.{Bindings}
use Rattle.htl_expr.specs.Value as spec
use Rattle.htl_expr.specs.Variables.{seen_by}
use Rattle.htl_expr.proofs.expression.Expr.value.Goals as goal

pub returns-in-Some : goal.returns-in-Some
returns-in-Some c =
    let scope = c.args.scope.now in
    let vars = c.variables.result.now in
    let node = c.in-Some.node in
    let seen = subst (λ (s : Bindings). IfOk c.owned_value.result (λ v. v ≡ spec.value (seen_by s vars) node)) c.of-resource.ensures c.owned_value.ensures in
    let own = subst (λ (s : Bindings). IfOk c.owned_value.result (λ v. v ≡ spec.value s node)) c.variables.ensures seen in
    subst (λ (e : Expression). IfOk c.owned_value.result (λ v. v ≡ spec.expr_value scope e)) c.self.view_is
    (subst (λ (o : Option ExprNode). IfOk c.owned_value.result (λ v. v ≡ spec.value_or_nothing scope o)) (sym c.in-Some.is) own)
