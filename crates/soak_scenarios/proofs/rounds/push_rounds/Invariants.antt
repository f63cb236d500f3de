use Rattle.std.proofs.Common.{◌≡◌}
use Rattle.soak_scenarios.specs.Soaks.{with_rounds}
use Rattle.soak_scenarios.proofs.rounds.push_rounds.Given as goal

abbrev pub invariant-loop : goal.invariant-loop
invariant-loop l = l.draft ≡ with_rounds l.block l.counter l.initial.draft
