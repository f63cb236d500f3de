use Rattle.std.proofs.Common.{◌≡◌, ◌≤◌, length}
use denote.Text.{Utf8}
use denote.Shadow.{shadow}
use Rattle.htl_syntax.specs.Tokens.{expression_digits_from}
use Rattle.htl_syntax.proofs.numbers.digits_from.Given as goal

abbrev pub invariant-loop-more : goal.invariant-loop-more
invariant-loop-more l = shadow (Utf8 l.rest) × (expression_digits_from l.limit l.magnitude l.rest ≡ expression_digits_from l.limit 0 l.text) × (l.magnitude ≤ l.limit)

abbrev pub decreases-loop-more : goal.decreases-loop-more
decreases-loop-more l = length l.rest
