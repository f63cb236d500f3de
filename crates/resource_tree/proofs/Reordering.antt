-- A tree stays a tree where a node is put in another place among its parent's kids.
use Rattle.std.proofs.Common.{◌≡◌, ◌≢◌, ℕ, List, [], sym, ◌∙◌, ap, Some, None, ◌==◌, length}
use Rattle.std.specs.Prelude.{is_some, is_none, IsSome, unwrap_or}
use Rattle.std.specs.Option.{option_map_or}
use Rattle.std.specs.List.Sorted.{IsStrictlySortedBy}
use Rattle.std.specs.Map.{keys_of, set_value}
use Rattle.std.proofs.lemmas.Bool.{true≢false}
use Rattle.resource_tree.specs.declared.nodes.Node.{Node}
use Rattle.resource_tree.specs.declared.places.Place.{Place}
use Rattle.resource_tree.specs.Content.{by_path, same_path, kid, IsTree, IsGood, node_at, Content, empty_node, parent_of, name_of}
use Rattle.resource_tree.specs.Kids.{kids_in_order}
use Rattle.resource_tree.specs.Changes.{change_at, with_kids, with_order, reordering, kids_at, fixed_fault}
use Rattle.resource_tree.proofs.PathLemmas.{kid_parts}
use Rattle.resource_tree.proofs.Creation.{no_fault, not_none, some_from}
use Rattle.resource_tree.proofs.NodeChange.{IsGood-changed}
use Rattle.resource_tree.proofs.KidOrder.{Replaces-with_order}

-- what is known where a node may be taken from its place
pub record CanMove (tree : Content) (path : List (List ℕ)) : Type 0 where
  pub there : IsSome (node_at tree path)
  pub not_root : path ≢ []

pub can_move : (tree : Content) (path : List (List ℕ)) → fixed_fault tree path ≡ None → CanMove tree path
can_move tree path e =
    let first = no_fault (is_none (node_at tree path)) _ _ e in
    let second = no_fault (length path == 0) _ _ first.1 in
    record { there = not_none _ first.0; not_root = λ root. true≢false (sym (ap (λ (p : List (List ℕ)). length p == 0) root) ∙ second.0) }

pub kid_there : (tree : Content) (path : List (List ℕ)) → CanMove tree path → IsSome (node_at tree (kid (parent_of path) (name_of path)))
kid_there tree path can = ap (λ p. is_some (node_at tree p)) (kid_parts path can.not_root) ∙ can.there

pub parent_there : (tree : Content) (path : List (List ℕ)) → IsTree (node_at tree) → CanMove tree path → IsSome (node_at tree (parent_of path))
parent_there tree path old can = old.parents (parent_of path) (name_of path) (kid_there tree path can)

-- a change is what it does to the node that is there
pub change_at-same : (tree : Content) (path : List (List ℕ)) (node : Node) (f g : Node → Node) → node_at tree path ≡ Some node → f node ≡ g node → change_at tree path f ≡ change_at tree path g
change_at-same tree path node f g was same =
    ap (λ o. option_map_or (λ n. set_value (same_path path) tree (f n)) o tree) was
    ∙ ap (λ n. set_value (same_path path) tree n) same
    ∙ sym (ap (λ o. option_map_or (λ n. set_value (same_path path) tree (g n)) o tree) was)

-- the new content as the code makes it
pub reordering_named : (old tree : Content) (path parent : List (List ℕ)) (place : Place) (name : List ℕ) (kids new_kids : List (List ℕ)) → IsTree (node_at tree) → CanMove tree path → old ≡ tree → parent ≡ parent_of path
    → name ≡ name_of path → kids ≡ kids_at old parent → Some new_kids ≡ kids_in_order name place kids → change_at old parent (with_kids new_kids) ≡ reordering tree path place
reordering_named old tree path parent place name kids new_kids good can same above last kids_is found_is =
    let segment : name_of path ≡ name = sym last in
    let was = some_from (node_at tree (parent_of path)) empty_node (parent_there tree path good can) in
    let its_kids : kids ≡ (unwrap_or (node_at tree (parent_of path)) empty_node).kids =
    kids_is ∙ ap (λ (t : Content). kids_at t parent) same ∙ ap (λ p. kids_at tree p) above ∙ ap (λ o. option_map_or (λ (n : Node). n.kids) o []) was in
    let in_place : Some new_kids ≡ kids_in_order (name_of path) place (unwrap_or (node_at tree (parent_of path)) empty_node).kids = found_is ∙ ap (λ s. kids_in_order s place kids) (sym segment) ∙ ap (λ ks. kids_in_order (name_of path) place ks) its_kids in
    ap (λ (t : Content). change_at t parent (with_kids new_kids)) same
    ∙ ap (λ p. change_at tree p (with_kids new_kids)) above
    ∙ change_at-same tree (parent_of path) (unwrap_or (node_at tree (parent_of path)) empty_node) (with_kids new_kids) (with_order (name_of path) place) was
    (ap (λ o. with_kids (unwrap_or o (unwrap_or (node_at tree (parent_of path)) empty_node).kids) (unwrap_or (node_at tree (parent_of path)) empty_node)) in_place)

-- the content with the kid in its place is good
pub IsGood-reordering : (new tree : Content) (path : List (List ℕ)) (place : Place) → IsGood tree → CanMove tree path → new ≡ reordering tree path place → IsStrictlySortedBy by_path (keys_of new) → IsGood new
IsGood-reordering new tree path place good can same ordered =
    let was = some_from (node_at tree (parent_of path)) empty_node (parent_there tree path good.shape can) in
    IsGood-changed new tree (parent_of path) _ (with_order (name_of path) place) good was (Replaces-with_order (node_at tree) (parent_of path) _ (name_of path) place good.shape was (kid_there tree path can)) same ordered
