use Rattle.std.proofs.Common.{◌≡◌, ◌≤◌, drop}
use Rattle.any_config.specs.Farms.{digits_after}
use Rattle.any_config.proofs.numbers.digits.Given as goal

abbrev pub invariant-loop-c : goal.invariant-loop-c
invariant-loop-c l = (l.n ≤ l.most) × (digits_after l.most l.n (drop l.c-index l.text) ≡ digits_after l.most 0 l.text)
