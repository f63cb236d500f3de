use Rattle.std.proofs.Common.{◌≡◌, ◌≤◌, ◌<◌, ◌++◌, ◌∷◌, ◌∙◌, ℕ, sym, subst}
use Rattle.std.proofs.lemmas.List.{append_cancel_left}
use Rattle.std.specs.Prelude.{IfNone}
use Rattle.std.specs.Fmt.{decimal}
use Rattle.replay_text.specs.EventLines.{way_text}
use Rattle.replay_text.proofs.WordLemmas.{one_first_word, decimal_no_blank}
use Rattle.replay_text.proofs.cache_lines.failure_after.Goals as goal

pub returns-in_default-first_word-clause-none : goal.returns-in_default-first_word-clause-none
returns-in_default-first_word-clause-none c = λ n way is e.
    c.in_default-first_word.ensures.none (decimal n) (way_text way) (append_cancel_left c.args.word.now c.in-Some.after.now (decimal n ++ 32 ∷ way_text way) (sym c.in-Some.ensures.some ∙ e))

pub returns-in_default-2-clause-none : goal.returns-in_default-2-clause-none
returns-in_default-2-clause-none c = λ n way is e.
    let none = subst (λ o. IfNone o ((m : ℕ) → 1 ≤ m → m < 18446744073709551616 → c.in-Some-first_word.number.now ≡ decimal m → ⊥)) c.in_default-2.is c.in_ok-n.ensures.none in
    let after = append_cancel_left c.args.word.now c.in-Some.after.now (decimal n ++ 32 ∷ way_text way) (sym c.in-Some.ensures.some ∙ e) in
    none n is.0 is.1 (one_first_word c.in-Some-first_word.number.now (decimal n) c.in-Some-first_word.rest.now (way_text way) c.in-Some-first_word.ensures.some.1 (decimal_no_blank n is.1)
    (sym c.in-Some-first_word.ensures.some.0 ∙ after)).0

pub returns-in_default-way_of-clause-none : goal.returns-in_default-way_of-clause-none
returns-in_default-way_of-clause-none c = λ n way is e.
    let after = append_cancel_left c.args.word.now c.in-Some.after.now (decimal n ++ 32 ∷ way_text way) (sym c.in-Some.ensures.some ∙ e) in
    c.in_default-way_of.ensures.none way (one_first_word c.in-Some-first_word.number.now (decimal n) c.in-Some-first_word.rest.now (way_text way) c.in-Some-first_word.ensures.some.1 (decimal_no_blank n is.1)
    (sym c.in-Some-first_word.ensures.some.0 ∙ after)).1
