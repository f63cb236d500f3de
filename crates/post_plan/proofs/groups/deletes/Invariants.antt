use Rattle.std.proofs.Common.{◌≡◌, ◌++◌, drop}
use Rattle.post_plan.specs.Entries.{deleted_spots}
use Rattle.post_plan.proofs.groups.deletes.Given as goal

abbrev pub invariant-loop-entry : goal.invariant-loop-entry
invariant-loop-entry l = l.spots ++ deleted_spots (drop l.entry-index l.entries) ≡ deleted_spots l.entries
