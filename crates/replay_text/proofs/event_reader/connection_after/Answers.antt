use Rattle.std.proofs.Common.{◌≡◌, ◌++◌, ◌∷◌, ◌∙◌, ℕ, sym, subst, arith}
use Rattle.std.proofs.lemmas.List.{append_cancel_left}
use Rattle.std.specs.Prelude.{IfNone}
use Rattle.std.specs.Fmt.{decimal}
use Rattle.replay_text.specs.Transcript.{IsConnectionNumber}
use Rattle.replay_text.proofs.WordLemmas.{one_first_word, decimal_no_blank}
use Rattle.replay_text.proofs.event_reader.connection_after.Goals as goal

pub returns-in_default-first_word-clause-none : goal.returns-in_default-first_word-clause-none
returns-in_default-first_word-clause-none c = λ n rest is e.
    c.in_default-first_word.ensures.none (decimal n) rest (append_cancel_left c.args.word.now c.in-Some.after.now (decimal n ++ 32 ∷ rest) (sym c.in-Some.ensures.some ∙ e))

pub returns-in_default-2-clause-none : goal.returns-in_default-2-clause-none
returns-in_default-2-clause-none c = λ n rest is e.
    let none = subst (λ o. IfNone o ((m : ℕ) → IsConnectionNumber m → c.in-Some-first_word.number.now ≡ decimal m → ⊥)) c.in_default-2.is c.in_ok-c.ensures.none in
    let after = append_cancel_left c.args.word.now c.in-Some.after.now (decimal n ++ 32 ∷ rest) (sym c.in-Some.ensures.some ∙ e) in
    none n is (one_first_word c.in-Some-first_word.number.now (decimal n) c.in-Some-first_word.rest.now rest c.in-Some-first_word.ensures.some.1 (decimal_no_blank n (omega (arith, is)))
    (sym c.in-Some-first_word.ensures.some.0 ∙ after)).0
