use Rattle.std.proofs.Common.{◌∙◌, ap}
use Rattle.std.specs.BTreeMap.{insert_entry}
use Rattle.sp_base.specs.PathExact.{exact_paths}
use Rattle.sp_base.proofs.OrderingLemmas.{by_path_total}
use Rattle.resource_tree.proofs.EntriesInOrder.{sorted-in_order, in_order-put}
use Rattle.resource_tree.specs.Content.{by_path}
use Rattle.resource_tree.specs.InOrder.{Entries}
use Rattle.resource_tree.proofs.table.Nodes.insert.Goals as goal

pub returns-clause-entries : goal.returns-clause-entries
returns-clause-entries c =
    in_order-put by_path by_path_total exact_paths c.self.inside.map.entries _ c.args.path c.args.node c.in_ok-insert.ensures.updates.0
    ∙ ap (λ (v : Entries). insert_entry by_path v.entries c.args.path c.args.node) c.self.view_is

pub returns-clause-ordered : goal.returns-clause-ordered
returns-clause-ordered c = sorted-in_order by_path by_path_total _

pub returns-in_err-insert-clause-ordered : goal.returns-in_err-insert-clause-ordered
returns-in_err-insert-clause-ordered c = sorted-in_order by_path by_path_total _
