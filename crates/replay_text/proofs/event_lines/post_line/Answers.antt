use Rattle.std.proofs.Common.{◌≡◌, ◌∷◌, ◌++◌, ℕ, List, codes, subst}
use Rattle.std.specs.Prelude.{IfNone, IfSome, IsTrue}
use Rattle.sp_base.specs.Bytes.{AreBytes}
use Rattle.replay_text.specs.EventLines.{is_visible_text}
use Rattle.replay_text.specs.Quoting.{connection_text}
use Rattle.replay_text.specs.Transcript.{quotation, IsConnectionNumber}
use Rattle.replay_text.proofs.WordLemmas.{one_connection}
use Rattle.replay_text.proofs.event_lines.post_line.Goals as goal

pub returns-in_default-2-clause-none : goal.returns-in_default-2-clause-none
returns-in_default-2-clause-none c = λ n target body is_n is are e.
    let some = subst (λ o. IfSome o (λ p. IsConnectionNumber p.0 × (c.args.line.now ≡ connection_text (codes "post ") p.0 p.1.now))) c.in-Some.is c.in_ok-c.ensures.some in
    let none = subst (λ o. IfNone o ((t b : List ℕ) → IsTrue (is_visible_text t) → AreBytes b → c.in-Some.rest.now ≡ t ++ 32 ∷ quotation b → ⊥)) c.in_default-2.is c.in_ok-target.ensures.none in
    none target body is are (one_connection (codes "post ") c.args.line.now c.in-Some.rest.now (target ++ 32 ∷ quotation body) c.in-Some.c n some.0 is_n some.1 e)
