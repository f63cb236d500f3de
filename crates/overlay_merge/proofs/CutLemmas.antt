-- Which layers are cut, by single nodes.
use Rattle.std.proofs.Common.{◌≡◌, ◌⊎◌, inl, inr, ◌+◌, ◌-◌, ◌<◌, ◌≤◌, ◌&&◌, ◌||◌, ℕ, zero, suc, Bool, true, false, List, [], length, take, refl, sym, ◌∙◌, ap, arith, ⊎_elim}
use Rattle.std.specs.Prelude.{Any, slice_index_or}
use Rattle.std.specs.List.{list_any}
use Rattle.std.proofs.lemmas.Bool.{and_from, and_parts, cases_Bool, cases_lt, false≢true, le-leb, leb-true, or_cases, or_left, or_right}
use Rattle.std.proofs.lemmas.List.{get_or-take, length-take-le}
use Rattle.std.proofs.lemmas.List.Folds.{Any-from_list_any, list_any-from_Any}
use Rattle.resource_tree.specs.Content.{Content, name_of}
use Rattle.overlay_merge.specs.declared.layers.Layer.{Layer}
use Rattle.overlay_merge.specs.Cut.{HidesKid, HidesResource, LayerIsCut, steps_above}
use Rattle.overlay_merge.specs.Hiding.{hides_kid_at, hides_kid_within, hides_resource_at, hides_resource_within, in_common, layer_is_cut, is_hidden_by, is_within, some_below}

-- ---- some number below another

record Found (n : ℕ) (p : ℕ → Bool) : Type 0 where
  at : ℕ
  less : at < n
  has : p at ≡ true

found : (n : ℕ) (p : ℕ → Bool) → some_below n p ≡ true → Found n p
found zero p e = absurd (false≢true e)
found (suc n) p e =
    ⊎_elim (λ (here : p n ≡ true). record { at = n; less = omega arith; has = here })
    (λ (none : p n ≡ false).
    let rest = found n p (sym (ap (λ t. t || some_below n p) none) ∙ e) in
    record { at = rest.at; less = omega (arith, rest.less); has = rest.has }) (cases_Bool (p n))

last_or : (n k : ℕ) → k < suc n → (k ≡ n) ⊎ (k < n)
last_or n k less = ⊎_elim (λ (before : k < n). inr before) (λ (past : n ≤ k). inl (omega (arith, past, less))) (cases_lt k n)

some_from : (n : ℕ) (p : ℕ → Bool) (k : ℕ) → k < n → p k ≡ true → some_below n p ≡ true
some_from zero p k less has = absurd (omega (arith, less))
some_from (suc n) p k less has =
    ⊎_elim (λ (last : k ≡ n). or_left (p n) (some_below n p) (ap p (sym last) ∙ has)) (λ (before : k < n). or_right (p n) (some_below n p) (some_from n p k before has)) (last_or n k less)

-- ---- nodes along a path

hides_resource_is : (tree : Content) (n : ℕ) (path : List (List ℕ)) → hides_resource_within tree n path ≡ true → HidesResource tree n path
hides_resource_is tree n path e =
    let at = found (length path + 1) (λ k. is_within n path k && hides_resource_at tree (take k path)) e in
    let both = and_parts (is_within n path at.at) (hides_resource_at tree (take at.at path)) at.has in
    let far = leb-true _ _ both.0 in
    let back : length path - (length path - at.at) ≡ at.at = omega (arith, at.less) in
    record {
      steps = length path - at.at;
      near = omega (arith, far);
      hides = ap (λ k. hides_resource_at tree (take k path)) back ∙ both.1;
    }

hides_resource_from : (tree : Content) (n : ℕ) (path : List (List ℕ)) → HidesResource tree n path → hides_resource_within tree n path ≡ true
hides_resource_from tree n path is =
    let near = is.near in
    let far : length path ≤ (length path - is.steps) + n = omega (arith, near) in
    some_from (length path + 1) (λ k. is_within n path k && hides_resource_at tree (take k path)) (length path - is.steps) (omega arith)
    (and_from (is_within n path (length path - is.steps)) (hides_resource_at tree (steps_above is.steps path)) (le-leb _ _ far) is.hides)

-- the last segment of some first segments
last_of_first : (path : List (List ℕ)) (steps k : ℕ) → steps < length path → k ≡ length path - (steps + 1) → name_of (steps_above steps path) ≡ slice_index_or path k []
last_of_first path steps k inside is =
    let size : length (steps_above steps path) ≡ length path - steps = length-take-le (length path - steps) path (omega arith) in
    let last : length (steps_above steps path) - 1 ≡ k = omega (arith, size, is) in
    ap (λ i. slice_index_or (steps_above steps path) i []) last ∙ get_or-take (length path - steps) path k [] (omega (arith, inside, is))

hides_kid_is : (tree : Content) (n : ℕ) (path : List (List ℕ)) → hides_kid_within tree n path ≡ true → HidesKid tree n path
hides_kid_is tree n path e =
    let at = found (length path) (λ k. is_within n path k && hides_kid_at tree (take k path) (slice_index_or path k [])) e in
    let both = and_parts (is_within n path at.at) (hides_kid_at tree (take at.at path) (slice_index_or path at.at [])) at.has in
    let far = leb-true _ _ both.0 in
    let steps = length path - (at.at + 1) in
    let less = at.less in
    let inside : steps < length path = omega (arith, less) in
    let k_is : at.at ≡ length path - (steps + 1) = omega (arith, less) in
    record {
      steps = steps;
      near = omega (arith, far, less);
      inside = inside;
      hides = ap (λ k. hides_kid_at tree (take k path) (name_of (steps_above steps path))) (sym k_is) ∙ ap (hides_kid_at tree (take at.at path)) (last_of_first path steps at.at inside k_is) ∙ both.1;
    }

hides_kid_from : (tree : Content) (n : ℕ) (path : List (List ℕ)) → HidesKid tree n path → hides_kid_within tree n path ≡ true
hides_kid_from tree n path is =
    let near = is.near in
    let inside = is.inside in
    let k = length path - (is.steps + 1) in
    let far : length path ≤ k + n = omega (arith, near, inside) in
    some_from (length path) (λ k. is_within n path k && hides_kid_at tree (take k path) (slice_index_or path k [])) k (omega (arith, inside))
    (and_from (is_within n path k) (hides_kid_at tree (take k path) (slice_index_or path k [])) (le-leb _ _ far)
    (ap (hides_kid_at tree (take k path)) (sym (last_of_first path is.steps k inside refl)) ∙ is.hides))

-- ---- layers

abbrev IsHiddenBy : Content → ℕ × List (List ℕ) → Type 0
IsHiddenBy tree upper = HidesResource tree upper.0 upper.1 ⊎ HidesKid tree upper.0 upper.1

hidden_is : (tree : Content) (upper : ℕ × List (List ℕ)) → is_hidden_by tree upper ≡ true → IsHiddenBy tree upper
hidden_is tree upper e =
    ⊎_elim (λ (r : hides_resource_within tree upper.0 upper.1 ≡ true). inl (hides_resource_is tree upper.0 upper.1 r)) (λ (k : hides_kid_within tree upper.0 upper.1 ≡ true). inr (hides_kid_is tree upper.0 upper.1 k))
    (or_cases (hides_resource_within tree upper.0 upper.1) (hides_kid_within tree upper.0 upper.1) e)

hidden_from : (tree : Content) (upper : ℕ × List (List ℕ)) → IsHiddenBy tree upper → is_hidden_by tree upper ≡ true
hidden_from tree upper is =
    ⊎_elim (λ (r : HidesResource tree upper.0 upper.1). or_left (hides_resource_within tree upper.0 upper.1) (hides_kid_within tree upper.0 upper.1) (hides_resource_from tree upper.0 upper.1 r))
    (λ (k : HidesKid tree upper.0 upper.1). or_right (hides_resource_within tree upper.0 upper.1) (hides_kid_within tree upper.0 upper.1) (hides_kid_from tree upper.0 upper.1 k)) is

pub cut_by_node : (tree : Content) (layer : Layer) (above : List Layer) → layer_is_cut tree layer above ≡ true → LayerIsCut tree layer above
unfolding layer_is_cut
cut_by_node tree layer above e =
    ⊎_elim (λ (own : hides_resource_within tree layer.own layer.path ≡ true). inl (hides_resource_is tree layer.own layer.path own))
    (λ (other : list_any (is_hidden_by tree) (in_common layer.common above) ≡ true).
    let any = Any-from_list_any (is_hidden_by tree) (in_common layer.common above) other in
    inr (any.0, any.1, any.2, any.3, hidden_is tree any.1 any.4))
    (or_cases (hides_resource_within tree layer.own layer.path) (list_any (is_hidden_by tree) (in_common layer.common above)) e)

pub cut_from_node : (tree : Content) (layer : Layer) (above : List Layer) → LayerIsCut tree layer above → layer_is_cut tree layer above ≡ true
unfolding layer_is_cut
cut_from_node tree layer above is =
    ⊎_elim (λ (own : HidesResource tree layer.own layer.path).
    or_left (hides_resource_within tree layer.own layer.path) (list_any (is_hidden_by tree) (in_common layer.common above)) (hides_resource_from tree layer.own layer.path own))
    (λ (other : Any (IsHiddenBy tree) (in_common layer.common above)).
    or_right (hides_resource_within tree layer.own layer.path) (list_any (is_hidden_by tree) (in_common layer.common above))
    (list_any-from_Any (is_hidden_by tree) (in_common layer.common above) (other.0, other.1, other.2, other.3, hidden_from tree other.1 other.4))) is
