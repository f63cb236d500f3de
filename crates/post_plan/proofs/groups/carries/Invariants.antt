use Rattle.std.proofs.Common.{◌≡◌, ◌++◌, drop}
use Rattle.post_plan.specs.Entries.{carries}
use Rattle.post_plan.proofs.groups.carries.Given as goal

abbrev pub invariant-loop-entry : goal.invariant-loop-entry
invariant-loop-entry l = l.list ++ carries l.node l.suffix (drop l.entry-index l.entries) ≡ carries l.node l.suffix l.entries
