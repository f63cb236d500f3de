use Rattle.std.proofs.Common.{rules, ◌≡◌, ◌<◌, ◌∙◌, sym, arith, subst}
use Rattle.std.specs.Fmt.{decimal}
use Rattle.std.specs.Prelude.{IfSome}
use Rattle.std.proofs.lemmas.Fmt.{decimal_injective}
use Rattle.sling_dispatch.proofs.form.scenario_number.Goals as goal

pub returns-else-number-le-GREATEST_NUMBER-clause-none : goal.returns-else-number-le-GREATEST_NUMBER-clause-none
returns-else-number-le-GREATEST_NUMBER-clause-none c = λ n most e.
    let some : c.args.spelled.now ≡ decimal c.in-Some.number = subst (λ o. IfSome o (λ n. c.args.spelled.now ≡ decimal n)) c.in-Some.is c.in_ok-number.ensures.some in
    let bounded : c.in-Some.number < 18446744073709551616 = search rules in
    let small : n < 18446744073709551616 = omega (arith, most) in
    omega (arith, most, decimal_injective n c.in-Some.number small bounded (sym e ∙ some), c.if-number-le-GREATEST_NUMBER.false)
