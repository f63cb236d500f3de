use Rattle.std.proofs.Common.{◌≡◌, ◌∙◌, sym, map, ap, subst}
use Rattle.std.specs.Map.Iter.{deref_pair}
use Rattle.std.proofs.lemmas.Map.Iter.{iter_end}
use Rattle.resource_tree.specs.Content.{by_path}
use Rattle.resource_tree.specs.InOrder.{in_order, Entries}
use Rattle.resource_tree.specs.Rows.{AreRowsOf}
use Rattle.resource_tree.proofs.RowLemmas.{rows_as_they_lie}
use Rattle.resource_tree.proofs.table.Nodes.rows.Goals as goal

pub returns : goal.returns
returns c =
    let es = c.self.inside.map.entries in
    let all : map deref_pair c.loop-path.yielded ≡ es = (iter_end deref_pair es c.loop-path.yielded _ _ _ _ (c.into_iter-path-iterator.ensures.into_iter_gives ∙ c.iter-path-items.ensures.rest) c.loop-path.yielded_by c.in-None.is c.next.ensures.steps).0 in
    let rows : map deref_pair c.loop-path.rows.items ≡ es = ap (map deref_pair) c.loop-path.invariant ∙ all in
    subst (λ (v : Entries). AreRowsOf v.entries (map deref_pair c.loop-path.rows.items)) c.self.view_is
    (subst (AreRowsOf (in_order by_path es)) (sym rows) (rows_as_they_lie es c.iter-path-items.ensures.found c.iter-path-items.ensures.unique))
