use Rattle.std.proofs.Common.{rules, ◌≡◌, ◌<◌, ℕ, ◌∙◌, sym, arith, subst}
use Rattle.std.specs.Fmt.{decimal}
use Rattle.std.specs.Prelude.{IfNone, IfSome}
use Rattle.std.proofs.lemmas.Fmt.{decimal_injective}
use Rattle.replay_text.proofs.event_reader.number_from_one.Goals as goal

pub returns-in_default-clause-none : goal.returns-in_default-clause-none
returns-in_default-clause-none c = λ n from small e.
    let none = subst (λ o. IfNone o ((n : ℕ) → n < 18446744073709551616 → c.args.word.now ≡ decimal n → ⊥)) c.in_default.is c.in_ok-n.ensures.none in
    none n small e

pub returns-else-n-gt0-clause-none : goal.returns-else-n-gt0-clause-none
returns-else-n-gt0-clause-none c = λ n from small e.
    let some : c.args.word.now ≡ decimal c.in-Some.n = subst (λ o. IfSome o (λ n. c.args.word.now ≡ decimal n)) c.in-Some.is c.in_ok-n.ensures.some in
    let bounded : c.in-Some.n < 18446744073709551616 = search rules in
    omega (arith, from, decimal_injective n c.in-Some.n small bounded (sym e ∙ some), c.if-n-gt0.false)
