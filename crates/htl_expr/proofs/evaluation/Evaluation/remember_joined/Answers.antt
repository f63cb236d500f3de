use Rattle.std.proofs.Common.{◌≡◌, [], sym, subst}
use Rattle.htl_expr.specs.Bindings.{Bindings}
use Rattle.htl_expr.specs.Print.{plain}
use Rattle.htl_expr.specs.Value.{property}
use Rattle.htl_expr.proofs.Remembered.{remembers_more_joined}
use Rattle.htl_expr.proofs.evaluation.Evaluation.remember_joined.Goals as goal

pub invariant_of-self-2 : goal.invariant_of-self-2
invariant_of-self-2 c =
    let is = subst (λ (s : Bindings). c.args.text ≡ plain [] (property s c.args.name)) (sym c.self.view_is) c.requires in
    (c.self.invariant.0, (c.self.invariant.1.0, (remembers_more_joined c.self.inside.scope c.self.inside.joined c.insert.new.self c.args.name c.args.text c.in_ok-insert.ensures.updates is c.self.invariant.1.1.0, c.self.invariant.1.1.1)))
