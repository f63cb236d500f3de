-- When a node may be made, but for the size of the content, and then for that.
use Rattle.std.proofs.Common.{◌≡◌, ◌≤◌, ◌<◌, ℕ, List, Some, None, Option, true, false, cond, ap, sym, ◌∙◌, length, arith}
use Rattle.std.specs.Prelude.{is_none, is_some, nat_le}
use Rattle.std.specs.Option.{option_map_or}
use Rattle.std.proofs.lemmas.Bool.{false_from_ne_true, leb-true, le-leb}
use Rattle.resource_tree.specs.declared.nodes.Node.{Node}
use Rattle.resource_tree.specs.declared.faults.TreeFault.{TreeFault}
use Rattle.resource_tree.specs.declared.faults.TreeFault.TheVariants.{FullTree}
use Rattle.resource_tree.specs.Content.{Content, most_nodes, node_at, parent_of, name_of, prop_at}
use Rattle.resource_tree.specs.Changes.{create_fault, has_prop_at}

abbrev pub size_fault : Content → Option TreeFault
size_fault tree = cond (nat_le most_nodes (length tree)) (Some FullTree) None

pub fault_but_size : (tree : Content) (path parent : List (List ℕ)) (above : Node) (name : List ℕ) → node_at tree parent ≡ Some above → parent ≡ parent_of path → is_some (node_at tree path) ≡ false
    → name ≡ name_of path → is_some (prop_at above name) ≡ false → create_fault tree path ≡ size_fault tree
fault_but_size tree path parent above name was up free named no_prop =
    let there_ : is_none (node_at tree (parent_of path)) ≡ false = ap (λ p. is_none (node_at tree p)) (sym up) ∙ ap is_none was in
    let untaken : has_prop_at tree (parent_of path) (name_of path) ≡ false =
    ap (λ n. has_prop_at tree (parent_of path) n) (sym named) ∙ ap (λ p. has_prop_at tree p name) (sym up) ∙ ap (λ o. option_map_or (λ (n : Node). is_some (prop_at n name)) o false) was ∙ no_prop in
    rw (there_, free, untaken)

pub full : (tree : Content) → 200000 ≤ length tree → size_fault tree ≡ Some FullTree
full tree large = let test : nat_le most_nodes (length tree) ≡ true = le-leb 200000 (length tree) large in rw test

pub not_full : (tree : Content) → length tree < 200000 → size_fault tree ≡ None
not_full tree small =
    let test : nat_le most_nodes (length tree) ≡ false = false_from_ne_true _ (λ is. let large : 200000 ≤ length tree = leb-true 200000 (length tree) is in omega (arith, large, small)) in
    rw test
