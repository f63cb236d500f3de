use Rattle.std.proofs.Common.{◌≡◌, ◌≤◌, ◌+◌, length}
use Rattle.resource_tree.specs.Patches.{patching}
use Rattle.resource_tree.proofs.room.put_all.Given as goal

abbrev pub invariant-loop-path : goal.invariant-loop-path
invariant-loop-path l = (l.nodes.entries ≡ patching l.fn.nodes.entries l.yielded) × (l.fn.nodes.room ≤ l.nodes.room + length l.yielded)
