use Rattle.std.proofs.Common.{sym, ◌∙◌, ap, subst, ◌<◌}
use Rattle.std.specs.BTreeMap.{insert_entry}
use Rattle.std.specs.HashMap.{spare}
use Rattle.sp_base.specs.PathExact.{exact_paths}
use Rattle.sp_base.proofs.OrderingLemmas.{by_path_total}
use Rattle.sp_base.proofs.ResultLemmas.{OnOk-at_ok}
use Rattle.resource_tree.proofs.EntriesInOrder.{in_order-put}
use Rattle.resource_tree.specs.Content.{by_path}
use Rattle.resource_tree.specs.InOrder.{Entries}
use Rattle.resource_tree.proofs.table.Nodes.put_in_room.Goals as goal

pub returns-clause-entries : goal.returns-clause-entries
returns-clause-entries c =
    let there : 0 < spare c.self.inside.map = subst (λ (v : Entries). 0 < v.room) (sym c.self.view_is) c.requires in
    let updates = OnOk-at_ok c.insert.result (c.insert.ensures.succeeds there) c.insert.ensures.updates in
    in_order-put by_path by_path_total exact_paths c.self.inside.map.entries _ c.args.path c.args.node updates.0
    ∙ ap (λ (v : Entries). insert_entry by_path v.entries c.args.path c.args.node) c.self.view_is
