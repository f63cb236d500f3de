use Rattle.std.proofs.Common.{rules, ◌≡◌, ℕ, List, false, subst}
use Rattle.std.specs.Prelude.{codes, nat_eq}
use Rattle.std.specs.Cmp.Lexicographic.{pointwise}
use Rattle.resource_tree.specs.Content.{name_of}
use Rattle.publisher.proofs.ForgetLemmas.{IsWithout, not_a_text, text_without}
use Rattle.publisher.proofs.changes.forget_text.Goals as goal

pub returns-then-ne-clause-forgotten : goal.returns-then-ne-clause-forgotten
returns-then-ne-clause-forgotten c script reading e =
    let other : pointwise nat_eq (name_of c.args.path.now) (codes "jcr:content") ≡ false = search rules in
    not_a_text c.args.path.now script other

pub returns-clause-forgotten : goal.returns-clause-forgotten
returns-clause-forgotten c script reading e =
    let old = c.args.templates.now in
    let new = c.forget.new.self in
    text_without old new c.args.path.now script reading (subst (λ (at : List (List ℕ)). IsWithout old new at) c.in_ok-script.ensures c.forget.ensures) e
