-- When a kid may be put in another place.
use Rattle.std.proofs.Common.{◌≡◌, ◌==◌, ℕ, List, Some, None, true, ap, sym, ◌∙◌, length}
use Rattle.std.specs.Prelude.{is_none, is_some}
use Rattle.resource_tree.specs.declared.places.Place.{Place}
use Rattle.resource_tree.specs.Kids.{kids_in_order}
use Rattle.resource_tree.specs.Content.{Content, node_at, parent_of, name_of}
use Rattle.resource_tree.specs.Changes.{fixed_fault, has_place_at, kids_at, order_fault}
use Rattle.resource_tree.proofs.Creation.{no_fault}

pub order_allowed : (tree : Content) (path parent : List (List ℕ)) (place : Place) (name : List ℕ) (kids new_kids : List (List ℕ)) → fixed_fault tree path ≡ None → parent ≡ parent_of path
    → name ≡ name_of path → kids ≡ kids_at tree parent → Some new_kids ≡ kids_in_order name place kids → order_fault tree path place ≡ None
order_allowed tree path parent place name kids new_kids fixed above named kids_are found =
    let first = no_fault (is_none (node_at tree path)) _ _ fixed in
    let second = no_fault (length path == 0) _ _ first.1 in
    let has : has_place_at tree path place ≡ true =
    ap (λ n. is_some (kids_in_order n place (kids_at tree (parent_of path)))) (sym named) ∙ ap (λ p. is_some (kids_in_order name place (kids_at tree p))) (sym above) ∙ ap (λ ks. is_some (kids_in_order name place ks)) (sym kids_are) ∙ ap is_some (sym found) in
    let there_ = first.0 in
    let deep = second.0 in
    rw (there_, deep, has)
