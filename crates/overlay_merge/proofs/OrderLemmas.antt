-- Moves that are made one after the other.
use Rattle.std.proofs.Common.{◌≡◌, ◌+◌, ◌++◌, subst, ℕ, Bool, true, false, not, cond, List, [], ◌∷◌, Some, refl, sym, ◌∙◌}
use Rattle.std.specs.Prelude.{filter, fold, nat_eq}
use Rattle.std.specs.List.{AllByRecursion, IsDistinct}
use Rattle.std.specs.Cmp.Lexicographic.{nat_list_eq_equiv, pointwise}
use Rattle.std.proofs.lemmas.Bool.{or_parts, not-true}
use Rattle.std.proofs.lemmas.List.Elements.{All-head, All-tail}
use Rattle.std.proofs.lemmas.Map.Keys.{IsDistinct-cons, IsDistinct-head, IsDistinct-tail}
use Rattle.sp_base.proofs.ListLemmas.{all_append, all_filter, all_weaker}
use Rattle.resource_tree.specs.Content.{Content, IsTree, node_at}
use Rattle.resource_tree.specs.Seen.{Resource, res_at}
use Rattle.overlay_merge.specs.Kids.{all_kids, has_text, kids_there, with_kids_of}
use Rattle.overlay_merge.specs.Walk.{AreNodesOf}
use Rattle.overlay_merge.proofs.KidLemmas.{node_of}

-- ---- no kid is twice among the kids of layers

each_passes : {X : Type 0} (p : X → Bool) (xs : List X) → AllByRecursion (λ x. p x ≡ true) (filter p xs)
each_passes p [] = tt
each_passes p (x ∷ xs) =
    elim (p x) as (λ b. p x ≡ b → AllByRecursion (λ y. p y ≡ true) (cond b (x ∷ filter p xs) (filter p xs))) [
      | true ↦ λ e. (e, each_passes p xs)
      | false ↦ λ e. each_passes p xs
    ] refl

abbrev AreDistinct : List (List ℕ) → Type 0
AreDistinct names = IsDistinct (pointwise nat_eq) names

distinct_join : (xs ys : List (List ℕ)) → AreDistinct xs → AreDistinct ys → AllByRecursion (λ y. has_text xs y ≡ false) ys → AreDistinct (xs ++ ys)
distinct_join [] ys dx dy apart = dy
distinct_join (x ∷ xs) ys dx dy apart =
    let eq = pointwise nat_eq in
    IsDistinct-cons eq x (xs ++ ys)
    (all_append (λ y. eq x y ≡ false) xs ys (IsDistinct-head eq x xs dx)
    (all_weaker (λ y. has_text (x ∷ xs) y ≡ false) (λ y. eq x y ≡ false) (λ y none. nat_list_eq_equiv.symm x y ∙ (or_parts (eq y x) (has_text xs y) none).0) ys apart))
    (distinct_join xs ys (IsDistinct-tail eq x xs dx) dy
    (all_weaker (λ y. has_text (x ∷ xs) y ≡ false) (λ y. has_text xs y ≡ false) (λ y none. (or_parts (eq y x) (has_text xs y) none).1) ys apart))

distinct_filter : (p : List ℕ → Bool) (xs : List (List ℕ)) → AreDistinct xs → AreDistinct (filter p xs)
distinct_filter p [] d = d
distinct_filter p (x ∷ xs) d =
    let eq = pointwise nat_eq in
    elim (p x) as (λ b. AreDistinct (cond b (x ∷ filter p xs) (filter p xs))) [
      | true ↦ IsDistinct-cons eq x (filter p xs) (all_filter (λ y. eq x y ≡ false) p xs (IsDistinct-head eq x xs d)) (distinct_filter p xs (IsDistinct-tail eq x xs d))
      | false ↦ distinct_filter p xs (IsDistinct-tail eq x xs d)
    ]

distinct_with : (names : List (List ℕ)) (layer : Resource) → AreDistinct names → AreDistinct layer.kids → AreDistinct (with_kids_of names layer)
unfolding with_kids_of
distinct_with names layer dn dk =
    let p = λ (name : List ℕ). not (has_text names name) in
    distinct_join names (filter p layer.kids) dn (distinct_filter p layer.kids dk)
    (all_weaker (λ y. p y ≡ true) (λ y. has_text names y ≡ false) (λ y e. not-true (has_text names y) e) (filter p layer.kids) (each_passes p layer.kids))

distinct_kids : (tree : Content) (res : Resource) → IsTree (node_at tree) → res_at tree res.path ≡ Some res → AreDistinct res.kids
distinct_kids tree res good is =
    let at = node_of tree res.path res (node_at tree res.path) refl is in
    subst (λ (r : Resource). AreDistinct r.kids) (sym at.1.1) (good.nodes res.path at.0 at.1.0).distinct

distinct_fold : (tree : Content) (names : List (List ℕ)) (layers : List Resource) → IsTree (node_at tree) → AreNodesOf tree layers → AreDistinct names → AreDistinct (fold with_kids_of names layers)
distinct_fold tree names [] good are d = d
distinct_fold tree names (layer ∷ layers) good are d =
    let P = λ (res : Resource). res_at tree res.path ≡ Some res in
    distinct_fold tree (with_kids_of names layer) layers good (All-tail P layer layers are) (distinct_with names layer d (distinct_kids tree layer good (All-head P layer layers are)))

no_names : AreDistinct []
unfolding IsDistinct
no_names = tt

pub distinct_there : (tree : Content) (path : List (List ℕ)) (layers : List Resource) → IsTree (node_at tree) → AreNodesOf tree layers → AreDistinct (kids_there tree path (all_kids layers))
unfolding kids_there all_kids
distinct_there tree path layers good are = distinct_filter _ (fold with_kids_of [] layers) (distinct_fold tree [] layers good are no_names)
