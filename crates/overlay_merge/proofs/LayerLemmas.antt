-- The layers of overlays and overrides, step by step.
use Rattle.std.proofs.Common.{◌≡◌, ◌+◌, ◌-◌, ◌<◌, ◌≤◌, ◌++◌, ℕ, zero, suc, true, false, cond, List, [], ◌∷◌, Option, Some, None, drop, take, length, length-append, append-nil, append_assoc, refl, sym, ◌∙◌, ap, subst, arith}
use Rattle.std.specs.Prelude.{codes, option_and_then, option_map}
use Rattle.std.specs.Option.{option_or}
use Rattle.sp_base.specs.Properties.{text_in}
use Rattle.resource_tree.specs.declared.nodes.Node.{Node}
use Rattle.resource_tree.specs.Content.{Content, IsTree, node_at}
use Rattle.type_chain.specs.Chain.{own_super, super_at}
use Rattle.type_chain.specs.Types.{place_of}
use Rattle.url_split.specs.Split.{at_greatest}
use Rattle.overlay_merge.specs.declared.layers.Layer.{Layer}
use Rattle.overlay_merge.specs.Layers.{base_at, base_of, descent, has_layer, layer_below, layer_by, make_layer, path_at, override_layer}
use Rattle.overlay_merge.proofs.PathLemmas.{none_from}

-- ---- overlays

pub no_rest : (path : List (List ℕ)) → length path ≤ 2 → drop 2 path ≡ []
no_rest [] small = refl
no_rest (a ∷ []) small = refl
no_rest (a ∷ b ∷ []) small = refl
no_rest (a ∷ b ∷ c ∷ path) small = absurd (omega (arith, small))

-- ---- the deepest node that names a super type

-- the base among the first n places
abbrev pub base_below : Content → List (List ℕ) → ℕ → Option (ℕ × List ℕ)
base_below tree path n = at_greatest (λ k. option_map (base_at k) (super_at tree (take k path))) n

no_super : (tree : Content) (path : List (List ℕ)) → node_at tree path ≡ None → super_at tree path ≡ None
unfolding super_at
no_super tree path none = ap (option_and_then (λ node. own_super node.props)) none

pub base_more : (tree : Content) (path : List (List ℕ)) (n : ℕ) (text : Option (List ℕ)) → super_at tree (take n path) ≡ text
    → base_below tree path (n + 1) ≡ option_or (option_map (base_at n) text) (base_below tree path n)
base_more tree path n text is =
    let e : n + 1 ≡ suc n = omega arith in
    ap (base_below tree path) e ∙ ap (λ o. option_or (option_map (base_at n) o) (base_below tree path n)) is

base_same : (tree : Content) (path : List (List ℕ)) (n d : ℕ) → ((m : ℕ) → n ≤ m → super_at tree (take m path) ≡ None) → base_below tree path (n + d) ≡ base_below tree path n
base_same tree path n zero none = let e : n + zero ≡ n = omega arith in ap (base_below tree path) e
base_same tree path n (suc d) none =
    let e : n + suc d ≡ (n + d) + 1 = omega arith in
    let le : n ≤ n + d = omega arith in
    ap (base_below tree path) e ∙ base_more tree path (n + d) None (none (n + d) le) ∙ base_same tree path n d none

pub base_ends : (tree : Content) (path : List (List ℕ)) (n : ℕ) → IsTree (node_at tree) → node_at tree (take n path) ≡ None → n ≤ length path
    → base_below tree path n ≡ base_below tree path (suc (length path))
base_ends tree path n good none le =
    let e : suc (length path) ≡ n + (suc (length path) - n) = omega (arith, le) in
    sym (ap (base_below tree path) e ∙ base_same tree path n (suc (length path) - n) (λ m past. no_super tree (take m path) (none_from tree path n good none m past)))

-- ---- the layers of an override

pub descent-zero : (tree : Content) (above : List Layer) (next : Option Layer) → descent tree zero above next ≡ []
unfolding descent
descent-zero tree above next = refl

pub descent-none : (tree : Content) (n : ℕ) (above : List Layer) → descent tree n above None ≡ []
unfolding descent
descent-none tree zero above = refl
descent-none tree (suc n) above = refl

pub descent-there : (tree : Content) (n : ℕ) (above : List Layer) (layer : Layer) → has_layer above layer.path ≡ true → descent tree n above (Some layer) ≡ []
unfolding descent
descent-there tree zero above layer there = refl
descent-there tree (suc n) above layer there = ap (λ t. cond t [] (layer ∷ descent tree n (above ++ layer ∷ []) (layer_below tree layer.path))) there

pub descent-new : (tree : Content) (n : ℕ) (above : List Layer) (layer : Layer) → has_layer above layer.path ≡ false
    → descent tree (suc n) above (Some layer) ≡ layer ∷ descent tree n (above ++ layer ∷ []) (layer_below tree layer.path)
unfolding descent
descent-new tree n above layer new = ap (λ t. cond t [] (layer ∷ descent tree n (above ++ layer ∷ []) (layer_below tree layer.path))) new

-- what is left of the descent comes after the layers so far
pub record Descends (tree : Content) (all layers : List Layer) (next : Option Layer) : Type 0 where
  pub few : length layers ≤ 32
  pub rest : layers ++ descent tree (32 - length layers) layers next ≡ all

pub descends_end : (tree : Content) (all layers : List Layer) (next : Option Layer) → Descends tree all layers next → next ≡ None → layers ≡ all
descends_end tree all layers next so_far none =
    sym (append-nil layers) ∙ ap (λ l. layers ++ l) (sym (ap (descent tree (32 - length layers) layers) none ∙ descent-none tree (32 - length layers) layers)) ∙ so_far.rest

pub descends_full : (tree : Content) (all layers : List Layer) (next : Option Layer) → Descends tree all layers next → 32 ≤ length layers → layers ≡ all
unfolding descent
descends_full tree all layers next so_far full =
    let e : 32 - length layers ≡ 0 = omega (arith, full) in
    sym (append-nil layers) ∙ ap (λ l. layers ++ l) (sym (ap (λ n. descent tree n layers next) e)) ∙ so_far.rest

pub descends_there : (tree : Content) (all layers : List Layer) (next : Option Layer) (layer : Layer) → Descends tree all layers next → next ≡ Some layer
    → has_layer layers layer.path ≡ true → layers ≡ all
descends_there tree all layers next layer so_far is there =
    sym (append-nil layers) ∙ ap (λ l. layers ++ l) (sym (ap (descent tree (32 - length layers) layers) is ∙ descent-there tree (32 - length layers) layers layer there)) ∙ so_far.rest

pub descends_on : (tree : Content) (all layers more : List Layer) (next below : Option Layer) (layer : Layer) → Descends tree all layers next → next ≡ Some layer
    → length layers < 32 → has_layer layers layer.path ≡ false → below ≡ layer_below tree layer.path → more ≡ layers ++ layer ∷ [] → Descends tree all more below
descends_on tree all layers more next below layer so_far is room new below_is more_is =
    let size : length (layers ++ layer ∷ []) ≡ length layers + 1 = length-append layers (layer ∷ []) in
    let e : 32 - length layers ≡ suc (32 - length (layers ++ layer ∷ [])) = omega (arith, room, size) in
    let few : length (layers ++ layer ∷ []) ≤ 32 = omega (arith, room, size) in
    let rest : (layers ++ layer ∷ []) ++ descent tree (32 - length (layers ++ layer ∷ [])) (layers ++ layer ∷ []) (layer_below tree layer.path) ≡ all =
    append_assoc layers (layer ∷ []) _
    ∙ ap (λ l. layers ++ l) (sym (ap (λ n. descent tree n layers next) e ∙ ap (descent tree (suc (32 - length (layers ++ layer ∷ []))) layers) is
    ∙ descent-new tree (32 - length (layers ++ layer ∷ [])) layers layer new))
    ∙ so_far.rest in
    let at : Descends tree all (layers ++ layer ∷ []) (layer_below tree layer.path) = record { few = few; rest = rest } in
    subst (λ (o : Option Layer). Descends tree all more o) (sym below_is) (subst (λ (l : List Layer). Descends tree all l (layer_below tree layer.path)) (sym more_is) at)

-- ---- the layer below a path

pub below_none : (tree : Content) (path : List (List ℕ)) → base_of tree path ≡ None → layer_below tree path ≡ None
unfolding layer_below
below_none tree path none = ap (option_and_then (layer_by tree path)) none

pub below_no_place : (tree : Content) (path : List (List ℕ)) (n : ℕ) (text : List ℕ) → base_of tree path ≡ Some (base_at n text) → place_of tree text ≡ None → layer_below tree path ≡ None
unfolding layer_below
below_no_place tree path n text is none =
    ap (option_and_then (layer_by tree path)) is
    ∙ ap (λ o. option_map (override_layer (length path - n)) (option_and_then (λ (place : List (List ℕ)). path_at place path n) o)) none

pub below_is : (tree : Content) (path : List (List ℕ)) (n : ℕ) (text : List ℕ) (place : List (List ℕ)) → base_of tree path ≡ Some (base_at n text) → place_of tree text ≡ Some place
    → layer_below tree path ≡ option_map (override_layer (length path - n)) (path_at place path n)
unfolding layer_below
below_is tree path n text place is there =
    ap (option_and_then (layer_by tree path)) is
    ∙ ap (λ o. option_map (override_layer (length path - n)) (option_and_then (λ (place : List (List ℕ)). path_at place path n) o)) there

pub layer_made : (below path : List (List ℕ)) (n own common depth : ℕ) → own ≡ length below → depth ≡ length path → common ≡ depth - n
    → Some (make_layer below own common) ≡ Some (override_layer (length path - n) below)
layer_made below path n own common depth own_is depth_is common_is =
    ap (λ k. Some (make_layer below k common)) own_is ∙ ap (λ k. Some (make_layer below (length below) k)) (common_is ∙ ap (λ d. d - n) depth_is)

pub base_is : (tree : Content) (path : List (List ℕ)) → base_below tree path (suc (length path)) ≡ base_of tree path
unfolding base_of
base_is tree path = refl

pub super_is : (tree : Content) (path : List (List ℕ)) (node : Node) (text : Option (List ℕ)) → node_at tree path ≡ Some node → text ≡ text_in node.props (codes "sling:resourceSuperType")
    → super_at tree path ≡ text
unfolding super_at own_super
super_is tree path node text at is = ap (option_and_then (λ (n : Node). own_super n.props)) at ∙ sym is
