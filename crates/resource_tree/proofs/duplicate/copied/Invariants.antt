use Rattle.std.proofs.Common.{◌≡◌, map}
use Rattle.std.specs.Map.Iter.{deref_pair}
use Rattle.resource_tree.specs.Content.{by_path}
use Rattle.resource_tree.specs.InOrder.{in_order}
use Rattle.resource_tree.proofs.duplicate.copied.Given as goal

abbrev pub invariant-loop-path : goal.invariant-loop-path
invariant-loop-path l = l.copy.entries ≡ in_order by_path (map deref_pair l.yielded)
