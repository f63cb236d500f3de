use Rattle.std.proofs.Common.{◌≡◌, take, map}
use Rattle.std.specs.Fmt.{signed_decimal}
use Rattle.htl_expr.proofs.out.long_texts.Given as goal

abbrev pub invariant-loop-number : goal.invariant-loop-number
invariant-loop-number l = l.texts ≡ map signed_decimal (take l.number-index l.numbers)
