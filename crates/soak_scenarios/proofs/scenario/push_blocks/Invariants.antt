use Rattle.std.proofs.Common.{◌≡◌}
use Rattle.soak_scenarios.specs.Soaks.{with_drawn_blocks}
use Rattle.soak_scenarios.proofs.scenario.push_blocks.Given as goal

abbrev pub invariant-loop-before : goal.invariant-loop-before
invariant-loop-before l = l.draft ≡ with_drawn_blocks l.before l.initial.draft
