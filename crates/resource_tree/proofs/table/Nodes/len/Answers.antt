use Rattle.std.proofs.Common.{sym, ◌∙◌, ap, subst, length}
use Rattle.std.specs.List.Sorted.{IsStrictlySortedBy}
use Rattle.std.specs.Map.{keys_of}
use Rattle.sp_base.proofs.OrderingLemmas.{by_path_total}
use Rattle.resource_tree.proofs.EntriesInOrder.{length-in_order, sorted-in_order}
use Rattle.resource_tree.specs.Content.{by_path}
use Rattle.resource_tree.specs.InOrder.{Entries}
use Rattle.resource_tree.proofs.table.Nodes.len.Goals as goal

pub returns-clause-len : goal.returns-clause-len
returns-clause-len c = c.len.ensures.len ∙ sym (length-in_order by_path by_path_total _ c.len.ensures.unique) ∙ ap (λ (v : Entries). length v.entries) c.self.view_is

pub returns-clause-ordered : goal.returns-clause-ordered
returns-clause-ordered c = subst (λ (v : Entries). IsStrictlySortedBy by_path (keys_of v.entries)) c.self.view_is (sorted-in_order by_path by_path_total _)
