use Rattle.resource_tree.proofs.EntriesInOrder.{nil_in_order}
use Rattle.resource_tree.specs.Content.{by_path}
use Rattle.resource_tree.proofs.table.Nodes.new.Goals as goal

pub returns : goal.returns
returns c = record { empty = nil_in_order by_path _ c.with_hasher.ensures.empty }
