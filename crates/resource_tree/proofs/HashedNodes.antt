-- The nodes of a table that are copied one after the other, seen in the order of the paths.
use Rattle.std.proofs.Common.{◌≡◌, ℕ, List, [], ◌∷◌, ◌++◌, map, sym, ◌∙◌, ap, subst, Bor}
use Rattle.std.specs.Map.Iter.{deref_pair}
use Rattle.std.proofs.lemmas.List.{map-append}
use Rattle.std.specs.BTreeMap.{insert_entry}
use Rattle.std.specs.List.{IsDistinct}
use Rattle.std.specs.Ordering.{eq_by_cmp}
use Rattle.std.specs.Map.{keys_of}
use Rattle.sp_base.specs.PathExact.{exact_paths}
use Rattle.sp_base.proofs.OrderingLemmas.{by_path_total}
use Rattle.resource_tree.specs.InOrder.{in_order}
use Rattle.resource_tree.proofs.EntriesInOrder.{fresh, in_order-push}
use Rattle.resource_tree.specs.declared.nodes.Node.{Node}
use Rattle.resource_tree.specs.Content.{Content, by_path, same_path}

-- a loop over the entries of a table that adds a copy of each, after one more
pub copied_more : (all rest left : Content) (copy new : Content) (seen : List (Bor (List (List ℕ)) × Bor Node)) (item : Bor (List (List ℕ)) × Bor Node) (path : List (List ℕ)) (node : Node) → IsDistinct (eq_by_cmp by_path) (keys_of all)
    → all ≡ map deref_pair seen ++ rest → rest ≡ deref_pair item ∷ left → copy ≡ in_order by_path (map deref_pair seen) → path ≡ item.0.now → node ≡ item.1.now → new ≡ insert_entry by_path copy path node
    → new ≡ in_order by_path (map deref_pair (seen ++ item ∷ []))
copied_more all rest left copy new seen item path node distinct split next so_far same_path same_node is =
    let whole : all ≡ map deref_pair seen ++ deref_pair item ∷ left = split ∙ ap (λ (r : Content). map deref_pair seen ++ r) next in
    let free = fresh by_path by_path_total (map deref_pair seen) (deref_pair item) left (subst (λ (t : Content). IsDistinct (eq_by_cmp by_path) (keys_of t)) whole distinct) in
    is ∙ rw (so_far, same_path, same_node) (sym (in_order-push by_path by_path_total exact_paths (map deref_pair seen) item.0.now item.1.now free) ∙ ap (in_order by_path) (sym (map-append deref_pair seen (item ∷ []))))
