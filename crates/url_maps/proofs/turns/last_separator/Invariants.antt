use Rattle.std.proofs.Common.{◌≡◌, ◌≤◌, ◌<◌, ◌-◌, ℕ, false, length, get_or}
use Rattle.url_maps.specs.Search.{is_separator}
use Rattle.url_maps.proofs.turns.last_separator.Given as goal

abbrev pub invariant-loop-passed : goal.invariant-loop-passed
invariant-loop-passed l = (k : ℕ) → length l.bytes - l.passed ≤ k → k < length l.bytes → is_separator (get_or l.bytes k 0) ≡ false
