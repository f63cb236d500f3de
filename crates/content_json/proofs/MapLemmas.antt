-- A tree is the finite map of its nodes.
use Rattle.std.proofs.Common.{◌≡◌, ℕ, cond, T, List, [], ◌∷◌, Some, Less, Equal, Greater, refl, sym, ap, ◌∙◌, subst}
use Rattle.std.specs.FinMap.Entries.{by_order, put, find, is_sorted, below_all, is_sorted-put, find-put, same_entries}
use Rattle.std.specs.List.{AllByRecursion}
use Rattle.std.specs.List.Sorted.{IsStrictlySortedBy}
use Rattle.std.specs.Map.{keys_of}
use Rattle.std.specs.BTreeMap.{insert_entry}
use Rattle.std.specs.Ordering.{is_lt, match_ordering}
use Rattle.sp_base.proofs.BoolLemmas.{T_both}
use Rattle.sp_base.proofs.OrderingLemmas.{by_path_exact, by_path_total}
use Rattle.resource_tree.specs.declared.nodes.Node.{Node}
use Rattle.resource_tree.specs.Content.{Content, by_path, same_path, node_at}
use Rattle.content_json.specs.ContentOf.{map_of}

pub find_is_node_at : (q : List (List ℕ)) (es : Content) → find by_path q es ≡ node_at es q
find_is_node_at q [] = refl
find_is_node_at q (e ∷ es) = ap (cond (same_path q e.0) (Some e.1)) (find_is_node_at q es)

pub find_in_map : (q : List (List ℕ)) (nodes : Content) → find by_path q (map_of nodes) ≡ node_at nodes q
find_in_map q [] = refl
find_in_map q (e ∷ nodes) = find-put by_path by_path_total q e.0 e.1 (map_of nodes) ∙ ap (cond (same_path q e.0) (Some e.1)) (find_in_map q nodes)

pub map_sorted : (nodes : Content) → T (is_sorted by_path (map_of nodes))
map_sorted [] = tt
map_sorted (e ∷ nodes) = is_sorted-put by_path by_path_total e.0 e.1 (map_of nodes) (map_sorted nodes)

all_below : (path : List (List ℕ)) (es : Content) → AllByRecursion (λ y. by_path path y ≡ Less) (keys_of es) → T (below_all by_path path es)
all_below path [] h = tt
all_below path (e ∷ es) h = T_both _ _ (subst (λ o. T (is_lt o)) (sym h.0) tt) (all_below path es h.1)

tree_sorted : (es : Content) → IsStrictlySortedBy by_path (keys_of es) → T (is_sorted by_path es)
unfolding IsStrictlySortedBy
tree_sorted [] h = tt
tree_sorted (e ∷ es) h = T_both _ _ (all_below e.0 es h.0) (tree_sorted es h.1)

-- a tree whose look-ups are those of some nodes is their map
pub is_map_of : (tree nodes : Content) → IsStrictlySortedBy by_path (keys_of tree) → ((q : List (List ℕ)) → node_at tree q ≡ node_at nodes q) → tree ≡ map_of nodes
is_map_of tree nodes sorted same =
    same_entries by_path by_path_total by_path_exact tree (map_of nodes) (tree_sorted tree sorted) (map_sorted nodes) (λ q. find_is_node_at q tree ∙ same q ∙ sym (find_in_map q nodes))

-- ---- one more node

pub insert_is_put : (es : Content) (path : List (List ℕ)) (node : Node) → insert_entry by_path es path node ≡ put by_path path node es
insert_is_put [] path node = refl
insert_is_put (e ∷ es) path node =
    elim (by_path path e.0) as (λ o. match_ordering o ((path, node) ∷ e ∷ es) ((e.0, node) ∷ es) (e ∷ insert_entry by_path es path node) ≡ by_order o ((path, node) ∷ e ∷ es) ((e.0, node) ∷ es) (e ∷ put by_path path node es)) [
      | Less ↦ refl
      | Equal ↦ refl
      | Greater ↦ ap (λ more. e ∷ more) (insert_is_put es path node)
    ]
