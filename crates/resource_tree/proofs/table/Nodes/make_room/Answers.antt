use Rattle.std.proofs.Common.{◌∙◌, ap}
use Rattle.sp_base.specs.PathExact.{exact_paths}
use Rattle.sp_base.proofs.OrderingLemmas.{by_path_total}
use Rattle.resource_tree.proofs.EntriesInOrder.{in_order-same}
use Rattle.resource_tree.specs.Content.{by_path}
use Rattle.resource_tree.specs.InOrder.{Entries}
use Rattle.resource_tree.proofs.table.Nodes.make_room.Goals as goal

pub returns-clause-entries : goal.returns-clause-entries
returns-clause-entries c = in_order-same by_path by_path_total exact_paths c.self.inside.map.entries _ c.reserve.ensures.entries.2 ∙ ap (λ (v : Entries). v.entries) c.self.view_is
