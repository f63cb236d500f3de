use Rattle.std.proofs.Common.{◌≡◌, ◌∙◌, ◌++◌, ap, sym, arith}
use Rattle.std.specs.Prelude.{codes, decimal}
use Rattle.std.proofs.lemmas.Fmt.{decimal_digit}
use Rattle.sp_base.proofs.request.version_of.Goals as goal

pub returns-then-minor-eq0 : goal.returns-then-minor-eq0
returns-then-minor-eq0 c = ap (λ digits. codes " HTTP/1." ++ digits) (sym (ap decimal c.if-minor-eq0.true ∙ decimal_digit 0 (omega arith)))

pub returns-else-minor-eq0 : goal.returns-else-minor-eq0
returns-else-minor-eq0 c =
    let one : c.args.minor ≡ 1 = omega (arith, c.requires, c.if-minor-eq0.false) in
    ap (λ digits. codes " HTTP/1." ++ digits) (sym (ap decimal one ∙ decimal_digit 1 (omega arith)))
