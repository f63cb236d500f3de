use Rattle.std.proofs.Common.{rules, ◌≡◌, ◌<◌, ◌∙◌, sym, arith, subst}
use Rattle.std.specs.Fmt.{decimal}
use Rattle.std.specs.Prelude.{IfSome}
use Rattle.std.proofs.lemmas.Fmt.{decimal_injective}
use Rattle.sling_dispatch.proofs.form.turn_count.Goals.{else-turns-gt0-via-then-turns-gt0+else-turns-le-MOST_TURNS, else-turns-gt0-via-else-turns-gt0}
use Rattle.sling_dispatch.proofs.form.turn_count.Goals as goal

pub returns-else-turns-gt0-clause-none : goal.returns-else-turns-gt0-clause-none
returns-else-turns-gt0-clause-none c = λ n least most e.
    let some : c.args.spelled.now ≡ decimal c.in-Some.turns = subst (λ o. IfSome o (λ n. c.args.spelled.now ≡ decimal n)) c.in-Some.is c.in_ok-turns.ensures.some in
    let bounded : c.in-Some.turns < 18446744073709551616 = search rules in
    let small : n < 18446744073709551616 = omega (arith, most) in
    let same = decimal_injective n c.in-Some.turns small bounded (sym e ∙ some) in
    elim c.else-turns-gt0.branch [
      | else-turns-gt0-via-then-turns-gt0+else-turns-le-MOST_TURNS w ↦ omega (arith, most, same, w.if-turns-le-MOST_TURNS.false)
      | else-turns-gt0-via-else-turns-gt0 w ↦ omega (arith, least, same, w.if-turns-gt0.false)
    ]
