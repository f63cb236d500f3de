use Rattle.std.proofs.Common.{◌≡◌, ◌≤◌, ◌++◌, length, None}
use denote.Text.{Utf8}
use denote.Shadow.{shadow}
use Rattle.std.specs.Str.{chars}
use Rattle.glob_rules.specs.Reading as spec
use Rattle.glob_rules.proofs.read.pieces_of.Given as goal

abbrev pub invariant-loop-c : goal.invariant-loop-c
invariant-loop-c l = record {
  text : shadow (Utf8 l.rest);
  pieces : l.pieces.items ++ spec.pieces_from None (chars l.rest) ≡ spec.pieces_from None (chars l.text);
  unclosed : spec.unclosed_class None (chars l.rest) ≡ spec.unclosed_class None (chars l.text);
  within : length l.rest ≤ length l.text;
}

abbrev pub decreases-loop-c : goal.decreases-loop-c
decreases-loop-c l = length l.rest
