use Rattle.std.proofs.Common.{◌≡◌}
use Rattle.resource_tree.proofs.table.Nodes.rows.Given as goal

abbrev pub invariant-loop-path : goal.invariant-loop-path
invariant-loop-path l = l.rows.items ≡ l.yielded
