use Rattle.std.proofs.Common.{◌≡◌, ◌++◌, [], drop, take}
use Rattle.post_plan.specs.Entries.{sets_from}
use Rattle.post_plan.proofs.sets.sets.Given as goal

abbrev pub invariant-loop-n : goal.invariant-loop-n
invariant-loop-n l = l.list ++ sets_from l.pairs l.entries (take l.n l.entries) (drop l.n l.entries) ≡ sets_from l.pairs l.entries [] l.entries
