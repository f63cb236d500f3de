use Rattle.std.proofs.Common.{◌≡◌, ◌++◌, drop}
use Rattle.post_plan.specs.Entries.{entries_where}
use Rattle.post_plan.specs.Parameters.{any_marked}
use Rattle.post_plan.proofs.entries.entries.Given as goal

abbrev pub invariant-loop-name : goal.invariant-loop-name
invariant-loop-name l = l.found.items ++ entries_where l.node (any_marked l.pairs) (drop l.name-index l.pairs) ≡ entries_where l.node (any_marked l.pairs) l.pairs
