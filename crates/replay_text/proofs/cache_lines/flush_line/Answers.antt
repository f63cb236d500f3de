use Rattle.std.proofs.Common.{◌≡◌, ◌∷◌, ℕ, codes, subst}
use Rattle.std.specs.Prelude.{IfNone, IfSome}
use Rattle.replay_text.specs.EventLines.{flushed_text}
use Rattle.replay_text.specs.Quoting.{connection_text, IsNoFlushed}
use Rattle.replay_text.specs.Transcript.{IsConnectionNumber}
use Rattle.replay_text.proofs.WordLemmas.{one_connection}
use Rattle.replay_text.proofs.cache_lines.flush_line.Goals as goal

pub returns-in_default-2-clause-none : goal.returns-in_default-2-clause-none
returns-in_default-2-clause-none c = λ n action handle only is_n is e.
    let some = subst (λ o. IfSome o (λ p. IsConnectionNumber p.0 × (c.args.line.now ≡ connection_text (codes "flush ") p.0 p.1.now))) c.in-Some.is c.in_ok-c.ensures.some in
    let none = subst (λ o. IfNone o (IsNoFlushed c.in-Some.rest.now)) c.in_default-2.is c.in_ok-action.ensures.none in
    none action handle only is (one_connection (codes "flush ") c.args.line.now c.in-Some.rest.now (flushed_text action handle only) c.in-Some.c n some.0 is_n some.1 e)
