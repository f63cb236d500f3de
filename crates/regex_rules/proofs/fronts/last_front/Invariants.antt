use Rattle.std.proofs.Common.{length}
use denote.Text.{Utf8}
use denote.Shadow.{shadow}
use Rattle.regex_rules.proofs.FrontLemmas.{Walked}
use Rattle.regex_rules.proofs.fronts.last_front.Given as goal

abbrev pub invariant-loop-c : goal.invariant-loop-c
invariant-loop-c l = shadow (Utf8 l.rest) × Walked l.places l.sets.olds l.answer l.enters l.text l.rest l.from l.last

abbrev pub decreases-loop-c : goal.decreases-loop-c
decreases-loop-c l = length l.rest
