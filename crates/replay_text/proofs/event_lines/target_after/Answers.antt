use Rattle.std.proofs.Common.{◌≡◌, ℕ, List, subst}
use Rattle.std.specs.Prelude.{IfNone, IfSome, IsTrue}
use Rattle.replay_text.specs.Transcript.{IsConnectionNumber}
use Rattle.replay_text.specs.EventLines.{is_visible_text}
use Rattle.replay_text.specs.Quoting.{connection_text}
use Rattle.replay_text.proofs.WordLemmas.{one_connection}
use Rattle.replay_text.proofs.event_lines.target_after.Goals as goal

pub returns-in_default-2-clause-none : goal.returns-in_default-2-clause-none
returns-in_default-2-clause-none c = λ n target is_n is e.
    let some = subst (λ o. IfSome o (λ p. IsConnectionNumber p.0 × (c.args.line.now ≡ connection_text c.args.word.now p.0 p.1.now))) c.in-Some.is c.in_ok-c.ensures.some in
    let none = subst (λ o. IfNone o ((t : List ℕ) → IsTrue (is_visible_text t) → c.in-Some.rest.now ≡ t → ⊥)) c.in_default-2.is c.in_ok-target.ensures.none in
    none target is (one_connection c.args.word.now c.args.line.now c.in-Some.rest.now target c.in-Some.c n some.0 is_n some.1 e)
