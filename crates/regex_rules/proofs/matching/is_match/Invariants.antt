use Rattle.std.proofs.Common.{length, false}
use denote.Text.{Utf8}
use denote.Shadow.{shadow}
use Rattle.std.specs.Str.{chars}
use Rattle.regex_rules.proofs.MatchLemmas.{Matched}
use Rattle.regex_rules.proofs.matching.is_match.Given as goal

abbrev pub invariant-loop-c : goal.invariant-loop-c
invariant-loop-c l = shadow (Utf8 l.rest) × Matched l.places l.sets.olds l.answer false (chars l.text) (chars l.rest)

abbrev pub decreases-loop-c : goal.decreases-loop-c
decreases-loop-c l = length l.rest
