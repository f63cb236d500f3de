use Rattle.std.proofs.Common.{◌∙◌, ap}
use Rattle.std.specs.Map.{remove_entry}
use Rattle.sp_base.specs.PathExact.{exact_paths}
use Rattle.sp_base.proofs.OrderingLemmas.{by_path_total}
use Rattle.resource_tree.proofs.EntriesInOrder.{in_order-removed}
use Rattle.resource_tree.specs.Content.{by_path, same_path}
use Rattle.resource_tree.specs.InOrder.{Entries}
use Rattle.resource_tree.proofs.table.Nodes.remove.Goals as goal

pub returns-clause-entries : goal.returns-clause-entries
returns-clause-entries c =
    in_order-removed by_path by_path_total exact_paths c.self.inside.map.entries _ c.args.path.now c.remove.ensures.updates.0
    ∙ ap (λ (v : Entries). remove_entry (same_path c.args.path.now) v.entries) c.self.view_is
