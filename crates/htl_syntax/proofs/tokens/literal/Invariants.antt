use Rattle.std.proofs.Common.{◌≡◌, length}
use denote.Text.{Utf8}
use denote.Shadow.{shadow}
use Rattle.htl_syntax.specs.Tokens.{literal, AreAscii}
use Rattle.htl_syntax.proofs.tokens.literal.Given as goal

abbrev pub invariant-loop-left : goal.invariant-loop-left
invariant-loop-left l = shadow (Utf8 l.rest) × AreAscii l.left × (literal l.left l.rest ≡ literal l.word l.text)

abbrev pub decreases-loop-left : goal.decreases-loop-left
decreases-loop-left l = length l.left
