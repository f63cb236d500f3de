use Rattle.std.proofs.Common.{◌≡◌, ◌+◌, ℕ, List, None, sym, subst, rules}
use Rattle.htl_expr.specs.ComparedValue.{number_in, KeepsNumbers, AreNumbered}
use Rattle.htl_expr.proofs.Remembered.{keeps_more, numbered_more}
use Rattle.htl_expr.proofs.classes.Classes.add.Goals as goal

pub invariant_of-self-2 : goal.invariant_of-self-2
invariant_of-self-2 c =
    let next : c.in-Some.next ≡ c.self.inside.next + 1 = search rules in
    subst (AreNumbered c.insert.new.self.entries) (sym next) (numbered_more c.self.inside.numbers c.insert.new.self c.args.compared c.self.inside.next c.in_ok-insert.ensures.updates c.self.invariant)

pub returns-clause-kept : goal.returns-clause-kept
returns-clause-kept c =
    let none = subst (λ (numbers : List (List (List ℕ) × ℕ)). number_in numbers c.args.compared ≡ None) (sym c.self.view_is) c.requires in
    subst (λ (numbers : List (List (List ℕ) × ℕ)). KeepsNumbers numbers c.insert.new.self.entries) c.self.view_is
    (keeps_more c.self.inside.numbers c.insert.new.self c.args.compared c.self.inside.next c.in_ok-insert.ensures.updates none)
