use Rattle.std.proofs.Common.{◌≡◌, refl, subst, sym, IfSome, decimal}
use Rattle.post_apply.proofs.NumberLemmas.{spelled}
use Rattle.post_apply.proofs.numbers.number_of.Goals as goal

pub returns-then-is_plain : goal.returns-then-is_plain
returns-then-is_plain c =
    let plain = c.if-is_plain.ensures refl in
    subst (λ o. IfSome o (λ n. c.args.digits.now ≡ decimal n)) (sym c.ok.ensures.value) (spelled c.args.digits.now c.parse.result plain.0 plain.1 c.parse.ensures.value.0)
