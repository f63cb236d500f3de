use Rattle.std.proofs.Common.{◌≡◌, ◌++◌, ◌∙◌, [], ℕ, List, codes, sym, ap, subst}
use Rattle.std.specs.Prelude.{IfNone, IfSome}
use Rattle.sp_base.specs.Bytes.{AreBytes}
use Rattle.replay_text.specs.Quoting.{connection_text, IsNoQuotation}
use Rattle.replay_text.specs.Transcript.{quotation, IsConnectionNumber}
use Rattle.replay_text.proofs.Escapes.{one_quoted}
use Rattle.replay_text.proofs.WordLemmas.{one_connection}
use Rattle.replay_text.proofs.event_lines.bytes_line.Goals as goal

pub returns-in_default-2-clause-none : goal.returns-in_default-2-clause-none
returns-in_default-2-clause-none c = λ n bytes is_n are some_bytes e.
    let some = subst (λ o. IfSome o (λ p. IsConnectionNumber p.0 × (c.args.line.now ≡ connection_text (codes "bytes ") p.0 p.1.now))) c.in-Some.is c.in_ok-c.ensures.some in
    let none = subst (λ o. IfNone o (IsNoQuotation c.in-Some.rest.now)) c.in_default-2.is c.in_ok-bytes.ensures.none in
    none bytes are (one_connection (codes "bytes ") c.args.line.now c.in-Some.rest.now (quotation bytes) c.in-Some.c n some.0 is_n some.1 e)

pub returns-then-is_empty-clause-none : goal.returns-then-is_empty-clause-none
returns-then-is_empty-clause-none c = λ n bytes is_n are some_bytes e.
    let some = subst (λ o. IfSome o (λ p. IsConnectionNumber p.0 × (c.args.line.now ≡ connection_text (codes "bytes ") p.0 p.1.now))) c.in-Some.is c.in_ok-c.ensures.some in
    let read = subst (λ o. IfSome o (λ b. AreBytes b × (c.in-Some.rest.now ≡ quotation b))) c.in-Some-2.is c.in_ok-bytes.ensures.some in
    let rest_is = one_connection (codes "bytes ") c.args.line.now c.in-Some.rest.now (quotation bytes) c.in-Some.c n some.0 is_n some.1 e in
    let same = one_quoted c.in-Some-2.bytes bytes [] [] (ap (λ (t : List ℕ). t ++ []) (sym read.1 ∙ rest_is)) in
    let empty : c.in-Some-2.bytes ≡ [] = c.is_empty.ensures.0 c.if-is_empty.true in
    some_bytes (sym same.0 ∙ empty)
