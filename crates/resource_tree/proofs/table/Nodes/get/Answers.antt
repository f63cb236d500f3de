use Rattle.std.proofs.Common.{sym, ◌∙◌, ap}
use Rattle.sp_base.proofs.OrderingLemmas.{by_path_total}
use Rattle.resource_tree.proofs.EntriesInOrder.{lookup-in_order}
use Rattle.resource_tree.specs.Content.{by_path, node_at}
use Rattle.resource_tree.specs.InOrder.{Entries}
use Rattle.resource_tree.proofs.table.Nodes.get.Goals as goal

pub returns : goal.returns
returns c = record { value = c.get.ensures.value ∙ sym (lookup-in_order by_path by_path_total c.args.path.now _) ∙ ap (λ (v : Entries). node_at v.entries c.args.path.now) c.self.view_is }
