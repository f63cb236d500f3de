use Rattle.std.proofs.Common.{◌≡◌, ℕ, ◌<◌, length, get_or}
use Rattle.regex_rules.specs.Linkings.{takers_of}
use Rattle.regex_rules.proofs.takers.listed.Given as goal

abbrev pub invariant-loop-c : goal.invariant-loop-c
invariant-loop-c l = (length l.sets.items ≡ l.c) × ((k : ℕ) → k < l.c → get_or l.sets.items k 0 ≡ takers_of k l.places)
