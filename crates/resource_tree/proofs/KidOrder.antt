-- A node keeps its kids where one of them is put in another place.
use Rattle.std.proofs.Common.{◌≡◌, ℕ, Bool, not, true, false, cond, ◌||◌, ◌&&◌, List, [], ◌∷◌, refl, sym, ◌∙◌, ap, ⊎_elim, Some, None, Option}
use Rattle.std.specs.Prelude.{IsSome, nat_eq, insert, filter, unwrap_or, option_map}
use Rattle.std.specs.Cmp.Lexicographic.{pointwise, nat_list_eq_equiv, same_text}
use Rattle.std.specs.List.{IsDistinct, AllByRecursion, list_any}
use Rattle.std.proofs.lemmas.Bool.{cases_Bool}
use Rattle.std.proofs.lemmas.List.Sorted.{IsPermutation-insert, list_any-IsPermutation}
use Rattle.std.proofs.lemmas.Map.Keys.{IsDistinct-head, IsDistinct-tail, IsDistinct-cons, IsDistinct-IsPermutation}
use Rattle.std.proofs.lemmas.Map.Views.{any-filter_same}
use Rattle.sp_base.proofs.ListLemmas.{all_filter}
use Rattle.resource_tree.specs.declared.nodes.Node.{Node}
use Rattle.resource_tree.specs.declared.places.Place.{Place}
use Rattle.resource_tree.specs.Kids.{other_kids, place_among}
use Rattle.resource_tree.specs.Content.{kid, IsTree}
use Rattle.resource_tree.specs.Changes.{with_kids, with_order}
use Rattle.resource_tree.proofs.NodeChange.{Replaces}

abbrev same : List ℕ → List ℕ → Bool
same = pointwise nat_eq

pub IsDistinct-filter : (p : List ℕ → Bool) (xs : List (List ℕ)) → IsDistinct same xs → IsDistinct same (filter p xs)
IsDistinct-filter p [] h = h
IsDistinct-filter p (x ∷ xs) h =
    let rest = IsDistinct-filter p xs (IsDistinct-tail same x xs h) in
    elim (p x) as (λ b. IsDistinct same (cond b (x ∷ filter p xs) (filter p xs))) [ true ↦ IsDistinct-cons same x (filter p xs) (all_filter _ p xs (IsDistinct-head same x xs h)) rest | false ↦ rest ]

apart_from : (name : List ℕ) (xs : List (List ℕ)) → AllByRecursion (λ y. same name y ≡ false) (other_kids name xs)
apart_from name [] = tt
apart_from name (x ∷ xs) =
    elim (same name x) as (λ b. same name x ≡ b → AllByRecursion (λ y. same name y ≡ false) (cond (not b) (x ∷ other_kids name xs) (other_kids name xs))) [
      | true ↦ λ _. apart_from name xs
      | false ↦ λ e. (e, apart_from name xs)
    ] refl

-- which kids are left without one
pub list_any-other_kids : (name q : List ℕ) (kids : List (List ℕ)) → list_any (same q) (other_kids name kids) ≡ (not (same name q) && list_any (same q) kids)
list_any-other_kids name q kids = any-filter_same (same q) (λ k. not (same name k)) (not (same name q)) (λ k e. ap (λ s. not (same name s)) (sym (same_text q k (sym e)))) kids

put_back : (name q : List ℕ) (kids : List (List ℕ)) → list_any (same name) kids ≡ true → (same q name || (not (same name q) && list_any (same q) kids)) ≡ list_any (same q) kids
put_back name q kids there =
    ⊎_elim
    (λ e. rw e (sym (ap (λ s. list_any (same s) kids) (same_text q name (sym e)) ∙ there)))
    (λ e. let back : same name q ≡ false = nat_list_eq_equiv.symm name q ∙ e in rw (e, back))
    (cases_Bool (same q name))

pub has-inserted : (name q : List ℕ) (kids : List (List ℕ)) (n : ℕ) → list_any (same name) kids ≡ true → list_any (same q) (insert (other_kids name kids) n name) ≡ list_any (same q) kids
has-inserted name q kids n there =
    sym (list_any-IsPermutation (same q) (name ∷ other_kids name kids) (insert (other_kids name kids) n name) (IsPermutation-insert (other_kids name kids) n name))
    ∙ ap (λ b. same q name || b) (list_any-other_kids name q kids)
    ∙ put_back name q kids there

pub IsDistinct-inserted : (name : List ℕ) (kids : List (List ℕ)) (n : ℕ) → IsDistinct same kids → IsDistinct same (insert (other_kids name kids) n name)
IsDistinct-inserted name kids n distinct =
    IsDistinct-IsPermutation same (λ x y. nat_list_eq_equiv.symm x y) (name ∷ other_kids name kids) (insert (other_kids name kids) n name) (IsPermutation-insert (other_kids name kids) n name)
    (IsDistinct-cons same name (other_kids name kids) (apart_from name kids) (IsDistinct-filter _ kids distinct))

pub Replaces-with_order : (at : List (List ℕ) → Option Node) (path : List (List ℕ)) (node : Node) (name : List ℕ) (place : Place) → IsTree at → at path ≡ Some node → IsSome (at (kid path name)) → Replaces node (with_order name place node)
Replaces-with_order at path node name place old was there =
    let before = old.nodes path node was in
    let has : list_any (same name) node.kids ≡ true = before.kids name ∙ there in
    elim (place_among place (other_kids name node.kids)) as (λ o. Replaces node (with_kids (unwrap_or (option_map (λ n. insert (other_kids name node.kids) n name) o) node.kids) node)) [
      | None ↦ record { kids = λ k. refl; distinct = before.distinct; apart = before.apart; names = before.names }
      | Some n ↦ record {
        kids = λ k. has-inserted name k node.kids n has;
        distinct = IsDistinct-inserted name node.kids n before.distinct;
        apart = λ k k_there. before.apart k (sym (has-inserted name k node.kids n has) ∙ k_there);
        names = before.names;
      }
    ]
