-- The layers of an override step by step, and that nothing else has these steps.
use Rattle.std.proofs.Common.{◌≡◌, ◌+◌, ◌-◌, ◌<◌, ◌++◌, inl, inr, ℕ, zero, suc, Bool, true, false, cond, nat_lt, List, [], ◌∷◌, Option, Some, None, drop, length, take, refl, sym, ◌∙◌, ap, subst, arith, append_assoc, take_all}
use Rattle.std.specs.Prelude.{slice_get, option_and_then, option_map, reverse}
use Rattle.std.specs.Option.{option_or}
use Rattle.std.proofs.lemmas.Bool.{cases_lt}
use Rattle.std.proofs.lemmas.List.{reverse-reverse}
use Rattle.std.proofs.lemmas.Option.{same_Some}
use Rattle.sp_base.specs.Texts.{Segments}
use Rattle.sp_base.specs.Paths.{path_or_none}
use Rattle.sp_base.proofs.NatLemmas.{below_suc, zero_below_suc}
use Rattle.sp_base.proofs.OptionLemmas.{option_map-some}
use Rattle.resource_tree.specs.Content.{Content}
use Rattle.type_chain.specs.Chain.{super_at}
use Rattle.type_chain.specs.Types.{place_of}
use Rattle.url_split.specs.Split.{at_greatest}
use Rattle.overlay_merge.specs.declared.layers.Layer.{Layer}
use Rattle.overlay_merge.specs.Layers.{base_at, base_of, descent, has_layer, layer_below, layer_by, make_layer, override_layer, override_layers, path_at}
use Rattle.overlay_merge.specs.Steps.{AreLayerSteps, IsBelow, unless_there}

no_more : (k : ℕ) (a : Layer) → slice_get {X = Layer} [] k ≡ Some a → ⊥
no_more k a e = cc

descent_first : (tree : Content) (n : ℕ) (above : List Layer) (next : Option Layer) → slice_get (descent tree n above next) 0 ≡ cond (nat_lt 0 n) (unless_there above next) None
unfolding descent
descent_first tree zero above next = refl
descent_first tree (suc n) above None = sym (ap (λ t. cond {A = Option Layer} t None None) (zero_below_suc n))
descent_first tree (suc n) above (Some layer) = go (has_layer above layer.path) ∙ sym (ap (λ t. cond t (unless_there above (Some layer)) None) (zero_below_suc n))
  where
    go : (x : Bool) → slice_get (cond x [] (layer ∷ descent tree n (above ++ layer ∷ []) (layer_below tree layer.path))) 0 ≡ cond x None (Some layer)
    go true = refl
    go false = refl

descent_next : (tree : Content) (n : ℕ) (above : List Layer) (next : Option Layer) (k : ℕ) (a : Layer) → slice_get (descent tree n above next) k ≡ Some a
    → slice_get (descent tree n above next) (suc k) ≡ cond (nat_lt (suc k) n) (unless_there (above ++ take (suc k) (descent tree n above next)) (layer_below tree a.path)) None
unfolding descent
descent_next tree zero above next k a e = absurd (no_more k a e)
descent_next tree (suc n) above None k a e = absurd (no_more k a e)
descent_next tree (suc n) above (Some layer) k a e = go (has_layer above layer.path) k e (λ m f. descent_next tree n (above ++ layer ∷ []) (layer_below tree layer.path) m a f)
  where
    rest : List Layer
    rest = descent tree n (above ++ layer ∷ []) (layer_below tree layer.path)

    go : (x : Bool) (k : ℕ) → slice_get (cond x [] (layer ∷ rest)) k ≡ Some a
        → ((m : ℕ) → slice_get rest m ≡ Some a → slice_get rest (suc m) ≡ cond (nat_lt (suc m) n) (unless_there ((above ++ layer ∷ []) ++ take (suc m) rest) (layer_below tree a.path)) None)
        → slice_get (cond x [] (layer ∷ rest)) (suc k) ≡ cond (nat_lt (suc k) (suc n)) (unless_there (above ++ take (suc k) (cond x [] (layer ∷ rest))) (layer_below tree a.path)) None
    go true k f ih = absurd (no_more k a f)
    go false zero f ih =
        descent_first tree n (above ++ layer ∷ []) (layer_below tree layer.path)
        ∙ ap (λ (t : Bool). cond t (unless_there (above ++ layer ∷ []) (layer_below tree layer.path)) None) (sym (below_suc 0 n))
        ∙ ap (λ (b : Layer). cond (nat_lt 1 (suc n)) (unless_there (above ++ layer ∷ []) (layer_below tree b.path)) None) (same_Some layer a f)
    go false (suc k) f ih =
        ih k f
        ∙ ap (λ (ls : List Layer). cond (nat_lt (suc k) n) (unless_there ls (layer_below tree a.path)) None) (append_assoc above (layer ∷ []) (take (suc k) rest))
        ∙ ap (λ (t : Bool). cond t (unless_there (above ++ layer ∷ take (suc k) rest) (layer_below tree a.path)) None) (sym (below_suc (suc k) n))

-- from the path down
down : Content → Segments → List Layer
down tree path = descent tree 32 [] (Some (override_layer 0 path))

down_steps : (tree : Content) (path : Segments) → AreLayerSteps tree path (descent tree 32 [] (Some (override_layer 0 path)))
down_steps tree path = record {
  first = descent_first tree 32 [] (Some (override_layer 0 path));
  next = λ k layer e.
      let one : suc k ≡ k + 1 = omega arith in
      subst (λ n. slice_get (descent tree 32 [] (Some (override_layer 0 path))) n ≡ cond (nat_lt n 32) (unless_there (take n (descent tree 32 [] (Some (override_layer 0 path)))) (layer_below tree layer.path)) None) one
      (descent_next tree 32 [] (Some (override_layer 0 path)) k layer e);
}

pub layers_have_steps : (tree : Content) (seg : List ℕ) (segs : Segments) → AreLayerSteps tree (seg ∷ segs) (reverse (override_layers tree (seg ∷ segs)))
layers_have_steps tree seg segs = subst (AreLayerSteps tree (seg ∷ segs)) (sym (reverse-reverse (descent tree 32 [] (Some (override_layer 0 (seg ∷ segs)))))) (down_steps tree (seg ∷ segs))

-- ---- and no other layers have these steps

only : Option Layer → List Layer
only None = []
only (Some layer) = layer ∷ []

take-next : (xs : List Layer) (k : ℕ) → take (suc k) xs ≡ take k xs ++ only (slice_get xs k)
unfolding only
take-next [] zero = refl
take-next [] (suc k) = refl
take-next (x ∷ xs) zero = refl
take-next (x ∷ xs) (suc k) = ap (λ ys. x ∷ ys) (take-next xs k)

get-none : (xs : List Layer) (k : ℕ) → slice_get xs k ≡ None → slice_get xs (suc k) ≡ None
get-none [] zero e = refl
get-none [] (suc k) e = refl
get-none (x ∷ xs) zero e = absurd cc
get-none (x ∷ xs) (suc k) e = get-none xs k e

module _ {tree : Content} {path : Segments} {xs ys : List Layer} (a : AreLayerSteps tree path xs) (b : AreLayerSteps tree path ys) where
  next_same : (k : ℕ) (o : Option Layer) → take k xs ≡ take k ys → slice_get xs k ≡ o → slice_get ys k ≡ o → take (suc k) xs ≡ take (suc k) ys → slice_get xs (suc k) ≡ slice_get ys (suc k)
  next_same k None before e f more = get-none xs k e ∙ sym (get-none ys k f)
  next_same k (Some layer) before e f more =
      let one : k + 1 ≡ suc k = omega arith in
      let step = λ (zs : List Layer) (n : ℕ). cond (nat_lt n 32) (unless_there (take n zs) (layer_below tree layer.path)) None in
      let this = subst (λ n. slice_get xs n ≡ step xs n) one (a.next k layer e) in
      let that = subst (λ n. slice_get ys n ≡ step ys n) one (b.next k layer f) in
      this ∙ ap (λ ts. cond (nat_lt (suc k) 32) (unless_there ts (layer_below tree layer.path)) None) more ∙ sym that

  both_same : (k : ℕ) → (take k xs ≡ take k ys) × (slice_get xs k ≡ slice_get ys k)
  both_same zero = (refl, a.first ∙ sym b.first)
  both_same (suc k) =
      let before = both_same k in
      let more = take-next xs k ∙ ap (λ ts. ts ++ only (slice_get xs k)) before.0 ∙ ap (λ o. take k ys ++ only o) before.1 ∙ sym (take-next ys k) in
      (more, next_same k (slice_get ys k) before.0 before.1 refl more)

  steps_same : xs ≡ ys
  steps_same =
      let n = length xs + length ys in
      sym (take_all n xs (omega arith)) ∙ (both_same n).0 ∙ take_all n ys (omega arith)

pub layers_are_alone : (tree : Content) (seg : List ℕ) (segs : Segments) (layers : List Layer) → AreLayerSteps tree (seg ∷ segs) layers → override_layers tree (seg ∷ segs) ≡ reverse layers
layers_are_alone tree seg segs layers a = ap reverse (steps_same (down_steps tree (seg ∷ segs)) a)

-- ---- the layer below

pub record IsGreatest {A : Type 0} (f : ℕ → Option A) (end : ℕ) (y : A) : Type 0 where
  pub at : ℕ
  pub within : at < end
  pub gives : f at ≡ Some y
  pub none : (n : ℕ) → at < n → n < end → f n ≡ None

last_none : {A : Type 0} (f : ℕ → Option A) (n m : ℕ) → f n ≡ None → m < suc n → (m < n → f m ≡ None) → f m ≡ None
last_none f n m is less none = elim (cases_lt m n) as (λ _. f m ≡ None) [
  | inl low ↦ none low
  | inr high ↦ (let same : n ≡ m = omega (arith, high, less) in ap f (sym same) ∙ is)
]

greatest : {A : Type 0} (f : ℕ → Option A) (end : ℕ) (y : A) → at_greatest f end ≡ Some y → IsGreatest f end y
greatest {A = A} f zero y e = absurd cc
greatest {A = A} f (suc n) y e = go (f n) refl (λ g. greatest f n y g) e
  where
    go : (o : Option A) → f n ≡ o → (at_greatest f n ≡ Some y → IsGreatest f n y) → option_or o (at_greatest f n) ≡ Some y → IsGreatest f (suc n) y
    go None is ih g =
        let h = ih g in
        let low = h.within in
        record { at = h.at; within = omega (arith, low); gives = h.gives; none = λ m more less. last_none f n m is less (h.none m more) }
    go (Some x) is ih g = record { at = n; within = omega arith; gives = is ∙ g; none = λ m more less. absurd (omega (arith, more, less)) }

greatest_only : {A : Type 0} (f : ℕ → Option A) (end : ℕ) (y : A) → IsGreatest f end y → at_greatest f end ≡ Some y
greatest_only f zero y g = absurd (let low = g.within in omega (arith, low))
greatest_only f (suc n) y g = elim (cases_lt g.at n) as (λ _. option_or (f n) (at_greatest f n) ≡ Some y) [
  | inl low ↦ ap (λ o. option_or o (at_greatest f n)) (g.none n low (omega arith)) ∙ greatest_only f n y (record { at = g.at; within = low; gives = g.gives; none = λ m more less. g.none m more (omega (arith, less)) })
  | inr high ↦ (let within = g.within in let same : g.at ≡ n = omega (arith, high, within) in ap (λ o. option_or o (at_greatest f n)) (ap f (sym same) ∙ g.gives))
]

and_then_found : {A B : Type 0} (f : A → Option B) (o : Option A) (y : B) → option_and_then f o ≡ Some y → (x : A) × (o ≡ Some x) × (f x ≡ Some y)
and_then_found f None y e = absurd cc
and_then_found f (Some x) y e = (x, refl, e)

-- what a path gives at a depth: the depth, and the super type's text of the node there
abbrev named_at : Content → Segments → ℕ → Option (ℕ × List ℕ)
named_at tree path n = option_map (base_at n) (super_at tree (take n path))

no_name : (n : ℕ) (o : Option (List ℕ)) → option_map (base_at n) o ≡ None → o ≡ None
no_name n None e = refl
no_name n (Some text) e = absurd cc

pub below_found : (tree : Content) (path : Segments) (layer : Layer) → layer_below tree path ≡ Some layer → IsBelow tree path layer
unfolding layer_below base_of
below_found tree path layer e =
    let base = and_then_found (layer_by tree path) (at_greatest (named_at tree path) (suc (length path))) layer e in
    let g = greatest (named_at tree path) (suc (length path)) base.0 base.1 in
    let named = option_map-some (base_at g.at) (super_at tree (take g.at path)) base.0 g.gives in
    let low = g.within in
    let depth : g.at ≡ base.0.0 = ap (λ (b : ℕ × List ℕ). b.0) named.2 in
    let text : named.0 ≡ base.0.1 = ap (λ (b : ℕ × List ℕ). b.1) named.2 in
    let made = option_map-some (override_layer (length path - base.0.0)) (option_and_then (λ place. path_at place path base.0.0) (place_of tree base.0.1)) layer base.2 in
    let placed = and_then_found (λ place. path_at place path base.0.0) (place_of tree base.0.1) made.0 made.1 in
    let path_is : made.0 ≡ layer.path = ap (λ (l : Layer). l.path) made.2 in
    record {
      depth = g.at;
      text = named.0;
      place = placed.0;
      within = omega (arith, low);
      names = named.1;
      deepest = λ n more less. no_name n (super_at tree (take n path)) (g.none n more (omega (arith, less)));
      leads = ap (place_of tree) text ∙ placed.1;
      goes_on = ap (λ (n : ℕ). path_or_none (placed.0 ++ drop n path)) depth ∙ placed.2 ∙ ap Some path_is;
      is = sym made.2 ∙ ap (λ (p : Segments). make_layer p (length p) (length path - base.0.0)) path_is ∙ ap (λ (n : ℕ). make_layer layer.path (length layer.path) (length path - n)) (sym depth);
    }

pub below_only : (tree : Content) (path : Segments) (layer : Layer) → IsBelow tree path layer → layer_below tree path ≡ Some layer
unfolding layer_below base_of
below_only tree path layer b =
    let within = b.within in
    let base : at_greatest (named_at tree path) (suc (length path)) ≡ Some (b.depth, b.text) =
    greatest_only (named_at tree path) (suc (length path)) (b.depth, b.text)
    (record { at = b.depth; within = omega (arith, within); gives = ap (option_map (base_at b.depth)) b.names; none = λ n more less. ap (option_map (base_at n)) (b.deepest n more (omega (arith, less))) }) in
    ap (option_and_then (layer_by tree path)) base
    ∙ ap (λ o. option_map (override_layer (length path - b.depth)) (option_and_then (λ place. path_at place path b.depth) o)) b.leads
    ∙ ap (option_map (override_layer (length path - b.depth))) b.goes_on
    ∙ ap Some (sym b.is)
