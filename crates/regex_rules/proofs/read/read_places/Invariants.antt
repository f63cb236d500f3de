use Rattle.std.proofs.Common.{◌≡◌, ◌≤◌, ◌-◌, length}
use denote.Text.{Utf8}
use denote.Shadow.{shadow}
use Rattle.std.specs.Str.{chars}
use Rattle.regex_rules.specs.Reading.{read_from, unread}
use Rattle.regex_rules.specs.Spelling.{strict}
use Rattle.regex_rules.proofs.read.read_places.Given as goal

abbrev pub invariant-loop-c : goal.invariant-loop-c
invariant-loop-c l = shadow (Utf8 l.rest) × (length l.rest ≤ length l.text) × (read_from strict (length l.text - length l.rest) l.reader (chars l.rest) ≡ read_from strict 0 unread (chars l.text))

abbrev pub decreases-loop-c : goal.decreases-loop-c
decreases-loop-c l = length l.rest
