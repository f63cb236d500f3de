use Rattle.std.proofs.Common.{◌≡◌, ◌-◌, length, drop}
use Rattle.regex_rules.specs.Linkings.{stood, nothing_taken}
use Rattle.regex_rules.proofs.takers.takers_of.Given as goal

abbrev pub invariant-loop-at : goal.invariant-loop-at
invariant-loop-at l = stood l.c (drop l.at l.places) l.found ≡ stood l.c l.places nothing_taken

abbrev pub decreases-loop-at : goal.decreases-loop-at
decreases-loop-at l = length l.places - l.at
