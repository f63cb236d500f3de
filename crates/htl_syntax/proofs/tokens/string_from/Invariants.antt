use Rattle.std.proofs.Common.{◌≡◌, length, false, string_bytes}
use denote.Text.{Utf8}
use denote.Shadow.{shadow}
use Rattle.htl_syntax.specs.Tokens.{string_from, read_with_prefix}
use Rattle.htl_syntax.proofs.tokens.string_from.Given as goal

abbrev pub invariant-loop-found : goal.invariant-loop-found
invariant-loop-found l = shadow (Utf8 l.rest) × (read_with_prefix (string_bytes l.found) (string_from false l.mark l.rest) ≡ string_from false l.mark l.text)

abbrev pub decreases-loop-found : goal.decreases-loop-found
decreases-loop-found l = length l.rest
