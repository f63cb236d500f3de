use Rattle.std.proofs.Common.{◌≡◌, ◌∙◌, ℕ, List, sym, subst}
use Rattle.std.specs.Prelude.{IfNone, IsTrue}
use Rattle.replay_text.specs.EventLines.{is_visible_text}
use Rattle.replay_text.specs.Quoting.{IsNoQuotation}
use Rattle.replay_text.specs.Transcript.{quotation}
use Rattle.replay_text.proofs.WordLemmas.{one_first_word, target_no_blank}
use Rattle.replay_text.proofs.event_lines.target_and_body.Goals as goal

pub returns-in_default-2-clause-none : goal.returns-in_default-2-clause-none
returns-in_default-2-clause-none c = λ t b is are e.
    let none = subst (λ o. IfNone o ((t : List ℕ) → IsTrue (is_visible_text t) → c.in-Some.word.now ≡ t → ⊥)) c.in_default-2.is c.in_ok-target.ensures.none in
    none t is (one_first_word c.in-Some.word.now t c.in-Some.rest.now (quotation b) c.in-Some.ensures.some.1 (target_no_blank t is) (sym c.in-Some.ensures.some.0 ∙ e)).0

pub returns-in_default-3-clause-none : goal.returns-in_default-3-clause-none
returns-in_default-3-clause-none c = λ t b is are e.
    let none = subst (λ o. IfNone o (IsNoQuotation c.in-Some.rest.now)) c.in_default-3.is c.in_ok-body.ensures.none in
    none b are (one_first_word c.in-Some.word.now t c.in-Some.rest.now (quotation b) c.in-Some.ensures.some.1 (target_no_blank t is) (sym c.in-Some.ensures.some.0 ∙ e)).1
