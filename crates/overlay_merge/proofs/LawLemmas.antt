-- What holds of all that is merged.
use Rattle.std.proofs.Common.{◌≡◌, ◌++◌, ◌&&◌, ℕ, true, false, cond, List, [], ◌∷◌, Option, Some, None, get_or, length, refl, sym, ◌∙◌, ap}
use Rattle.std.specs.Prelude.{fold, insert, nat_eq, option_map, position, remove, unwrap_or}
use Rattle.std.specs.List.{list_any}
use Rattle.std.specs.List.Sorted.{IsPermutation}
use Rattle.std.specs.Cmp.Lexicographic.{pointwise, same_text}
use Rattle.std.proofs.lemmas.Bool.{and_parts}
use Rattle.std.proofs.lemmas.List.Quantifiers.{position-Some}
use Rattle.std.proofs.lemmas.List.Sorted.{IsPermutation-insert, IsPermutation-refl, IsPermutation-remove, IsPermutation-trans, list_any-IsPermutation}
use Rattle.std.proofs.lemmas.Map.Views.{any-filter_same}
use Rattle.sp_base.proofs.BoolLemmas.{and_false, and_true}
use Rattle.resource_tree.specs.Content.{Content, kid}
use Rattle.resource_tree.specs.Seen.{Resource, res_at}
use Rattle.overlay_merge.specs.declared.layers.Layer.{Layer}
use Rattle.overlay_merge.specs.Roots.{is_merged_path, is_parent_of_roots}
use Rattle.overlay_merge.specs.Hiding.{layer_is_cut, resource_list, merged_from, shown_resources}
use Rattle.overlay_merge.specs.Kids.{all_kids, has_text, is_merged_there, layers_kids, kids_there, names_after_move, names_after_move_from, ordered_by, wish_at}
use Rattle.overlay_merge.specs.Merged.{merge, merged_resource, unmerged_resource, without_roots}
use Rattle.overlay_merge.proofs.KidLemmas.{has-all_kids}

pub unmerged_is : (tree : Content) (path : List (List ℕ)) → is_merged_path path ≡ false → is_parent_of_roots path ≡ false → merged_resource tree path ≡ res_at tree path
unfolding merged_resource
unmerged_is tree path plain other =
    ap (λ t. cond t (merge tree path (merged_from tree path)) (unmerged_resource tree path)) plain ∙ ap (λ t. cond t (option_map without_roots (res_at tree path)) (res_at tree path)) other

pub cut_is : (tree : Content) (layer : Layer) (above : List Layer) → layer_is_cut tree layer above ≡ true → shown_resources tree (layer ∷ above) ≡ shown_resources tree above
unfolding shown_resources
cut_is tree layer above cut = ap (λ t. cond t [] (resource_list (res_at tree layer.path)) ++ shown_resources tree above) cut

-- ---- moves

moved_at : (names : List (List ℕ)) (name other : List ℕ) (o : Option ℕ) → position (pointwise nat_eq name) names ≡ o → IsPermutation names (names_after_move_from name other names o)
moved_at names name other None is = IsPermutation-refl names
moved_at names name other (Some at) is =
    let found = position-Some (pointwise nat_eq name) names at name is in
    let same : name ≡ get_or names at name = same_text name (get_or names at name) (sym found.1) in
    let there = unwrap_or (position (pointwise nat_eq other) (remove names at)) (length (remove names at)) in
    elim (has_text names other) as (λ t. IsPermutation names (cond t (insert (remove names at) there name) names)) [
      | true ↦ IsPermutation-trans names (name ∷ remove names at) (insert (remove names at) there name) (IsPermutation-remove names at name found.0 same) (IsPermutation-insert (remove names at) there name)
      | false ↦ IsPermutation-refl names
    ]

pub moved-reorders : (names : List (List ℕ)) (name : List ℕ) (wish : Option (List ℕ)) → IsPermutation names (names_after_move name wish names)
unfolding names_after_move
moved-reorders names name None = IsPermutation-refl names
moved-reorders names name (Some other) =
    elim (pointwise nat_eq name other) as (λ t. IsPermutation names (cond t names (names_after_move_from name other names (position (pointwise nat_eq name) names)))) [
      | true ↦ IsPermutation-refl names
      | false ↦ moved_at names name other (position (pointwise nat_eq name) names) refl
    ]

fold-reorders : {A : Type 0} (step : List (List ℕ) → A → List (List ℕ)) (names : List (List ℕ)) (xs : List A) → ((so_far : List (List ℕ)) (x : A) → IsPermutation so_far (step so_far x))
    → IsPermutation names (fold step names xs)
fold-reorders step names [] each = IsPermutation-refl names
fold-reorders step names (x ∷ xs) each = IsPermutation-trans names (step names x) (fold step (step names x) xs) (each names x) (fold-reorders step (step names x) xs each)

ordered-reorders : (tree : Content) (names : List (List ℕ)) (layer : Resource) → IsPermutation names (ordered_by tree names layer)
unfolding ordered_by
ordered-reorders tree names layer =
    fold-reorders (λ so_far name. names_after_move name (wish_at tree (kid layer.path name)) so_far) names layer.kids (λ so_far name. moved-reorders so_far name (wish_at tree (kid layer.path name)))

pub kids-reorder : (tree : Content) (path : List (List ℕ)) (layers : List Resource) → IsPermutation (kids_there tree path (all_kids layers)) (layers_kids tree path layers)
unfolding layers_kids
kids-reorder tree path layers = fold-reorders (ordered_by tree) (kids_there tree path (all_kids layers)) layers (ordered-reorders tree)

-- ---- each kid

there-has : (tree : Content) (path names : List (List ℕ)) (name : List ℕ) → has_text (kids_there tree path names) name ≡ (is_merged_there tree (kid path name) && has_text names name)
unfolding kids_there
there-has tree path names name =
    any-filter_same (pointwise nat_eq name) (λ n. is_merged_there tree (kid path n)) (is_merged_there tree (kid path name)) (λ n e. ap (λ s. is_merged_there tree (kid path s)) (sym (same_text name n (sym e)))) names

pub kid-parts : (tree : Content) (path : List (List ℕ)) (layers : List Resource) (name : List ℕ) → has_text (layers_kids tree path layers) name ≡ true
    → (is_merged_there tree (kid path name) ≡ true) × (list_any (λ (layer : Resource). has_text layer.kids name) layers ≡ true)
kid-parts tree path layers name is =
    let before = list_any-IsPermutation (pointwise nat_eq name) (kids_there tree path (all_kids layers)) (layers_kids tree path layers) (kids-reorder tree path layers) in
    let both = and_parts (is_merged_there tree (kid path name)) (has_text (all_kids layers) name) (sym (there-has tree path (all_kids layers) name) ∙ before ∙ is) in
    (both.0, sym (has-all_kids layers name) ∙ both.1)

-- a name is that of a kid exactly where a layer has such a kid and something is left at its path
pub has-layers_kids : (tree : Content) (path : List (List ℕ)) (layers : List Resource) (name : List ℕ)
    → has_text (layers_kids tree path layers) name ≡ (is_merged_there tree (kid path name) && list_any (λ (layer : Resource). has_text layer.kids name) layers)
has-layers_kids tree path layers name =
    sym (list_any-IsPermutation (pointwise nat_eq name) (kids_there tree path (all_kids layers)) (layers_kids tree path layers) (kids-reorder tree path layers))
    ∙ there-has tree path (all_kids layers) name ∙ ap (λ t. is_merged_there tree (kid path name) && t) (has-all_kids layers name)

-- none where no layer has it, and else whether something is left at its path
pub has_no_kid : (tree : Content) (path : List (List ℕ)) (layers : List Resource) (name : List ℕ) → list_any (λ (layer : Resource). has_text layer.kids name) layers ≡ false
    → has_text (layers_kids tree path layers) name ≡ false
has_no_kid tree path layers name none =
    has-layers_kids tree path layers name ∙ ap (λ t. is_merged_there tree (kid path name) && t) none ∙ and_false (is_merged_there tree (kid path name))

pub has_kid_there : (tree : Content) (path : List (List ℕ)) (layers : List Resource) (name : List ℕ) → list_any (λ (layer : Resource). has_text layer.kids name) layers ≡ true
    → has_text (layers_kids tree path layers) name ≡ is_merged_there tree (kid path name)
has_kid_there tree path layers name some =
    has-layers_kids tree path layers name ∙ ap (λ t. is_merged_there tree (kid path name) && t) some ∙ and_true (is_merged_there tree (kid path name))
