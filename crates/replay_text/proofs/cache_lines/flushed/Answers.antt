use Rattle.std.proofs.Common.{◌≡◌, ◌++◌, ◌∷◌, ◌∙◌, ℕ, Bool, List, sym, subst}
use Rattle.std.specs.Prelude.{IfNone, IsTrue}
use Rattle.replay_text.specs.EventLines.{is_visible_text, scope_text}
use Rattle.replay_text.specs.Transcript.{action_text}
use Rattle.replay_text.proofs.EventLaws.{action_no_blank}
use Rattle.replay_text.proofs.WordLemmas.{one_first_word}
use Rattle.replay_text.proofs.cache_lines.flushed.Goals as goal

pub returns-in_default-action_of-clause-none : goal.returns-in_default-action_of-clause-none
returns-in_default-action_of-clause-none c = λ action handle only is e.
    c.in_default-action_of.ensures.none action
    (one_first_word c.in-Some.word.now (action_text action) c.in-Some.rest.now (handle ++ scope_text only) c.in-Some.ensures.some.1 (action_no_blank action) (sym c.in-Some.ensures.some.0 ∙ e)).0

pub returns-in_default-2-clause-none : goal.returns-in_default-2-clause-none
returns-in_default-2-clause-none c = λ action handle only is e.
    let none = subst (λ o. IfNone o ((handle : List ℕ) (only : Bool) → IsTrue (is_visible_text handle) → c.in-Some.rest.now ≡ handle ++ scope_text only → ⊥)) c.in_default-2.is c.in_ok-handle.ensures.none in
    none handle only is
    (one_first_word c.in-Some.word.now (action_text action) c.in-Some.rest.now (handle ++ scope_text only) c.in-Some.ensures.some.1 (action_no_blank action) (sym c.in-Some.ensures.some.0 ∙ e)).1
