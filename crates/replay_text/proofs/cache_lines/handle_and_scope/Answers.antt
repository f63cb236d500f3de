use Rattle.std.proofs.Common.{◌≡◌, ◌∙◌, ℕ, List, sym, subst}
use Rattle.std.specs.Prelude.{IfNone, IsTrue}
use Rattle.replay_text.specs.EventLines.{is_visible_text}
use Rattle.replay_text.proofs.EventLaws.{before_scope, without_scope}
use Rattle.replay_text.proofs.cache_lines.handle_and_scope.Goals as goal

pub returns-in_default-2-clause-none : goal.returns-in_default-2-clause-none
returns-in_default-2-clause-none c = λ handle only is e.
    let none = subst (λ o. IfNone o ((t : List ℕ) → IsTrue (is_visible_text t) → c.in-Some.word.now ≡ t → ⊥)) c.in_default-2.is c.in_ok-handle.ensures.none in
    let some = c.in-Some.ensures.some in
    none handle is (before_scope c.in-Some.word.now handle only some.1 is (sym some.0 ∙ e))

pub returns-in_default-3-clause-none : goal.returns-in_default-3-clause-none
returns-in_default-3-clause-none c = λ handle only is e.
    let none = subst (λ o. IfNone o ((t : List ℕ) → IsTrue (is_visible_text t) → c.args.text.now ≡ t → ⊥)) c.in_default-3.is c.in_ok-handle-2.ensures.none in
    none handle is (without_scope c.args.text.now handle only c.in_default.ensures.none is e)
