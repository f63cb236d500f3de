-- What a walk down a path notes decides which layers are cut.
use Rattle.std.proofs.Common.{◌≡◌, ◌+◌, ◌-◌, ◌≤◌, ◌++◌, ◌&&◌, ◌||◌, ℕ, zero, suc, Bool, true, false, cond, List, [], ◌∷◌, Some, None, take, length, map, min, nat_le, nat_lt, refl, sym, ◌∙◌, ap, arith}
use Rattle.std.specs.Prelude.{slice_index_or}
use Rattle.std.specs.Option.{option_map_or}
use Rattle.std.specs.List.{list_any}
use Rattle.std.proofs.lemmas.Bool.Decides.{nat_tests}
use Rattle.resource_tree.specs.Content.{Content, IsTree, node_at}
use Rattle.resource_tree.specs.Seen.{Resource, res_at}
use Rattle.resource_tree.specs.declared.nodes.Node.{Node}
use Rattle.sp_base.specs.Paths.{is_path}
use Rattle.overlay_merge.specs.Layers.{layers_of}
use Rattle.overlay_merge.specs.declared.layers.Layer.{Layer}
use Rattle.overlay_merge.specs.declared.hiding.HidingDepths.{HidingDepths}
use Rattle.overlay_merge.specs.declared.merged_resources.ScreenedLayer.{ScreenedLayer}
use Rattle.overlay_merge.specs.Hiding.{hides_kid, hides_kid_at, hides_kid_within, hides_resource, hides_resource_at, hides_resource_within, in_common, layer_is_cut, is_hidden_by, is_within, resource_list, merged_from, some_below, shown_resource, shown_resources}
use Rattle.overlay_merge.specs.Walk.{hiding_depths, is_screened, kid_depth, last_below, reaches, resource_depth, screened_layer, screens, some_screens, unscreened_resources}
use Rattle.overlay_merge.proofs.PathLemmas.{none_from}

-- ---- the last number that has a property

pub last_more : (p : ℕ → Bool) (n : ℕ) → last_below (n + 1) p ≡ cond (p n) (n + 1) (last_below n p)
unfolding last_below
last_more p n = let e : n + 1 ≡ suc n = omega arith in ap (λ k. last_below k p) e ∙ ap (λ k. cond (p n) k (last_below n p)) (sym e)

last_same : (p : ℕ → Bool) (n d : ℕ) → ((m : ℕ) → n ≤ m → p m ≡ false) → last_below (n + d) p ≡ last_below n p
last_same p n zero none = let e : n + zero ≡ n = omega arith in ap (λ k. last_below k p) e
last_same p n (suc d) none =
    let e : n + suc d ≡ (n + d) + 1 = omega arith in
    let le : n ≤ n + d = omega arith in
    ap (λ k. last_below k p) e ∙ last_more p (n + d) ∙ ap (λ t. cond t (n + d + 1) (last_below (n + d) p)) (none (n + d) le) ∙ last_same p n d none

last_ends : (p : ℕ → Bool) (n m : ℕ) → n ≤ m → ((k : ℕ) → n ≤ k → p k ≡ false) → last_below n p ≡ last_below m p
last_ends p n m le none = let e : m ≡ n + (m - n) = omega (arith, le) in sym (ap (λ k. last_below k p) e ∙ last_same p n (m - n) none)

last_small : (p : ℕ → Bool) (n : ℕ) → last_below n p ≤ n
unfolding last_below
last_small p zero = omega arith
last_small p (suc n) = let small = last_small p n in elim (p n) as (λ t. cond t (suc n) (last_below n p) ≤ suc n) [ true ↦ omega arith | false ↦ omega (arith, small) ]

step_reaches : (x n last : ℕ) (here : Bool) → last ≤ n → ((nat_le x n && here) || nat_lt x last) ≡ nat_lt x (cond here (suc n) last)
step_reaches x n last true small = grind (arith, nat_tests)
step_reaches x n last false small = grind (arith, nat_tests)

some_is_last : (x : ℕ) (p : ℕ → Bool) (n : ℕ) → some_below n (λ k. nat_le x k && p k) ≡ nat_lt x (last_below n p)
unfolding last_below
some_is_last x p zero = grind (arith, nat_tests)
some_is_last x p (suc n) = ap (λ t. (nat_le x n && p n) || t) (some_is_last x p n) ∙ step_reaches x n (last_below n p) (p n) (last_small p n)

some_same : (p q : ℕ → Bool) (n : ℕ) → ((k : ℕ) → p k ≡ q k) → some_below n p ≡ some_below n q
some_same p q zero same = refl
some_same p q (suc n) same = ap (λ t. t || some_below n p) (same n) ∙ ap (λ t. q n || t) (some_same p q n same)

within_is : (size n k : ℕ) → nat_le size (k + n) ≡ nat_le (size - n) k
within_is size n k = grind (arith, nat_tests)

some_within : (path : List (List ℕ)) (n m : ℕ) (p : ℕ → Bool) → some_below m (λ k. is_within n path k && p k) ≡ nat_lt (length path - n) (last_below m p)
some_within path n m p =
    some_same (λ k. is_within n path k && p k) (λ k. nat_le (length path - n) k && p k) m (λ k. ap (λ t. t && p k) (within_is (length path) n k))
    ∙ some_is_last (length path - n) p m

-- ---- the walk

hidden_none : (tree : Content) (path : List (List ℕ)) → node_at tree path ≡ None → hides_resource_at tree path ≡ false
hidden_none tree path none = ap (λ o. option_map_or (λ node. hides_resource node.props) o false) none

kid_none : (tree : Content) (path : List (List ℕ)) (name : List ℕ) → node_at tree path ≡ None → hides_kid_at tree path name ≡ false
kid_none tree path name none = ap (λ o. option_map_or (λ node. hides_kid name node.props) o false) none

pub resource_ends : (tree : Content) (path : List (List ℕ)) (n m : ℕ) → IsTree (node_at tree) → node_at tree (take n path) ≡ None → n ≤ m → resource_depth tree path n ≡ resource_depth tree path m
resource_ends tree path n m good none le =
    last_ends (λ k. hides_resource_at tree (take k path)) n m le (λ k past. hidden_none tree (take k path) (none_from tree path n good none k past))

pub kid_ends : (tree : Content) (path : List (List ℕ)) (n m : ℕ) → IsTree (node_at tree) → node_at tree (take n path) ≡ None → n ≤ m → kid_depth tree path n ≡ kid_depth tree path m
kid_ends tree path n m good none le =
    last_ends (λ k. hides_kid_at tree (take k path) (slice_index_or path k [])) n m le (λ k past. kid_none tree (take k path) (slice_index_or path k []) (none_from tree path n good none k past))

-- ---- layers

resource_reaches : (tree : Content) (n : ℕ) (path : List (List ℕ)) → reaches (hiding_depths tree path) n (hiding_depths tree path).resource ≡ hides_resource_within tree n path
unfolding hiding_depths
resource_reaches tree n path = sym (some_within path n (length path + 1) (λ k. hides_resource_at tree (take k path)))

kid_reaches : (tree : Content) (n : ℕ) (path : List (List ℕ)) → reaches (hiding_depths tree path) n (hiding_depths tree path).kid ≡ hides_kid_within tree n path
unfolding hiding_depths
kid_reaches tree n path = sym (some_within path n (length path) (λ k. hides_kid_at tree (take k path) (slice_index_or path k [])))

screens_is : (tree : Content) (n : ℕ) (layer : Layer) → screens n (screened_layer tree layer) ≡ is_hidden_by tree (n, layer.path)
screens_is tree n layer =
    ap (λ t. t || reaches (hiding_depths tree layer.path) n (hiding_depths tree layer.path).kid) (resource_reaches tree n layer.path)
    ∙ ap (λ t. hides_resource_within tree n layer.path || t) (kid_reaches tree n layer.path)

some_screens-is : (tree : Content) (n : ℕ) (above : List Layer) → some_screens n (map (screened_layer tree) above) ≡ list_any (is_hidden_by tree) (in_common n above)
unfolding some_screens
some_screens-is tree n [] = refl
some_screens-is tree n (layer ∷ above) =
    ap (λ t. t || some_screens (min n layer.common) (map (screened_layer tree) above)) (screens_is tree n layer)
    ∙ ap (λ t. is_hidden_by tree (n, layer.path) || t) (some_screens-is tree (min n layer.common) above)

is_screened-is : (tree : Content) (layer : Layer) (above : List Layer) → is_screened (screened_layer tree layer) (map (screened_layer tree) above) ≡ layer_is_cut tree layer above
unfolding is_screened layer_is_cut
is_screened-is tree layer above =
    ap (λ t. t || some_screens layer.common (map (screened_layer tree) above)) (resource_reaches tree layer.own layer.path)
    ∙ ap (λ t. hides_resource_within tree layer.own layer.path || t) (some_screens-is tree layer.common above)

pub unscreened_of-is : (tree : Content) (layers : List Layer) → unscreened_resources tree (map (screened_layer tree) layers) ≡ shown_resources tree layers
unfolding unscreened_resources shown_resources
unscreened_of-is tree [] = refl
unscreened_of-is tree (layer ∷ above) =
    ap (λ t. cond t [] (resource_list (res_at tree layer.path)) ++ unscreened_resources tree (map (screened_layer tree) above)) (is_screened-is tree layer above)
    ∙ ap (λ more. shown_resource tree layer above ++ more) (unscreened_of-is tree above)

-- ---- the notes of a walk

pub resource_next : (tree : Content) (path : List (List ℕ)) (k found new : ℕ) (node : Node) (here : Bool) → node_at tree (take k path) ≡ Some node
    → found ≡ resource_depth tree path k → here ≡ hides_resource node.props → new ≡ cond here (k + 1) found → new ≡ resource_depth tree path (k + 1)
resource_next tree path k found new node here at so_far here_is is =
    is ∙ ap (λ t. cond t (k + 1) found) (here_is ∙ sym (ap (λ o. option_map_or (λ n. hides_resource n.props) o false) at)) ∙ ap (cond (hides_resource_at tree (take k path)) (k + 1)) so_far
    ∙ sym (last_more (λ n. hides_resource_at tree (take n path)) k)

pub kid_next : (tree : Content) (path : List (List ℕ)) (k found new : ℕ) (node : Node) (here : Bool) → node_at tree (take k path) ≡ Some node
    → found ≡ kid_depth tree path k → here ≡ hides_kid (slice_index_or path k []) node.props → new ≡ cond here (k + 1) found → new ≡ kid_depth tree path (k + 1)
kid_next tree path k found new node here at so_far here_is is =
    is ∙ ap (λ t. cond t (k + 1) found) (here_is ∙ sym (ap (λ o. option_map_or (λ n. hides_kid (slice_index_or path k []) n.props) o false) at))
    ∙ ap (cond (hides_kid_at tree (take k path) (slice_index_or path k [])) (k + 1)) so_far
    ∙ sym (last_more (λ n. hides_kid_at tree (take n path) (slice_index_or path n [])) k)

abbrev pub make_depths : ℕ → ℕ → ℕ → HidingDepths
make_depths d r k = record { depth = d; resource = r; kid = k }

pub hiding_is : (tree : Content) (path : List (List ℕ)) (d r k : ℕ) → d ≡ length path → r ≡ resource_depth tree path (length path + 1) → k ≡ kid_depth tree path (length path)
    → make_depths d r k ≡ hiding_depths tree path
unfolding hiding_depths
hiding_is tree path d r k e f g =
    ap (λ n. make_depths n r k) e ∙ ap (λ n. make_depths (length path) n k) f ∙ ap (make_depths (length path) (resource_depth tree path (length path + 1))) g

pub merged_from-is : (tree : Content) (path : List (List ℕ)) (layers : List Layer) (list : List ScreenedLayer) (res : List Resource) → is_path path ≡ true
    → layers ≡ layers_of tree path → list ≡ map (screened_layer tree) layers → res ≡ unscreened_resources tree list → res ≡ merged_from tree path
unfolding merged_from
merged_from-is tree path layers list res valid layers_is list_is is =
    is ∙ ap (unscreened_resources tree) list_is ∙ unscreened_of-is tree layers ∙ ap (shown_resources tree) layers_is ∙ sym (ap (λ t. cond t (shown_resources tree (layers_of tree path)) []) valid)

pub not_merged : (tree : Content) (path : List (List ℕ)) → is_path path ≡ false → merged_from tree path ≡ []
unfolding merged_from
not_merged tree path invalid = ap (λ t. cond t (shown_resources tree (layers_of tree path)) []) invalid
