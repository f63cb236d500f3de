-- Where a kid of the nodes at a path's layers is there: no layer of it is cut, and no path on the way is too deep.
use Rattle.std.proofs.Common.{◌≡◌, ◌+◌, ◌-◌, ◌<◌, ◌≤◌, ◌++◌, ◌||◌, ◌&&◌, ◌==◌, ℕ, zero, suc, Bool, true, false, not, cond, List, [], ◌∷◌, Option, Some, None, drop, get_or, length, length-append, append_assoc, refl, sym, ◌∙◌, ap, arith, subst, ⊎_elim}
use Rattle.std.specs.Prelude.{All, is_some, nat_eq, option_and_then, option_map, reverse, slice_index_or, take, unwrap_or}
use Rattle.std.specs.List.{list_any}
use Rattle.std.specs.Cmp.Lexicographic.{pointwise}
use Rattle.std.proofs.lemmas.Bool.{false≢true, cases_Bool, and_right, or_left, or_right}
use Rattle.std.proofs.lemmas.List.{drop-append-le}
use Rattle.std.proofs.lemmas.List.Elements.{All-head, All-tail}
use Rattle.std.proofs.lemmas.List.Sorted.{All-permutation, IsPermutation-reverse, IsPermutation-sym}
use Rattle.sp_base.specs.Paths.{is_path, path_or_none}
use Rattle.sp_base.proofs.NatLemmas.{not_zero}
use Rattle.sp_base.proofs.OptionLemmas.{none_from_test}
use Rattle.sp_base.proofs.TextLemmas.{text_itself}
use Rattle.resource_tree.specs.Content.{Content, IsTree, kid, node_at}
use Rattle.resource_tree.specs.Seen.{Resource, res_at, res_of}
use Rattle.resource_tree.specs.declared.nodes.Node.{Node}
use Rattle.type_chain.specs.Types.{place_of}
use Rattle.overlay_merge.specs.declared.layers.Layer.{Layer}
use Rattle.overlay_merge.specs.Roots.{is_overlay, is_override}
use Rattle.overlay_merge.specs.Layers.{base_at, base_of, descent, has_layer, has_node, layer_below, layer_by, layers_of, overlay_layers, override_layer, override_layers, path_at}
use Rattle.overlay_merge.specs.Hiding.{hides_kid_at, hides_kid_within, hides_resource_at, hides_resource_within, in_common, is_hidden_by, is_within, layer_is_cut, merged_from, resource_list, some_below, shown_resource, shown_resources}
use Rattle.overlay_merge.specs.Cut.{HasRoomFor, HidesNothing, NoLayerIsCut}
use Rattle.overlay_merge.specs.Kids.{has_text, is_merged_there}
use Rattle.overlay_merge.specs.Walk.{has_kid_node}
use Rattle.overlay_merge.proofs.DescentLemmas.{AreKids, any-reverse, base_kid, base_less, more_kids, none_kids, or_second}
use Rattle.overlay_merge.proofs.KidLemmas.{kid_is, node_of}
use Rattle.overlay_merge.proofs.LayerLemmas.{base_is, below_is, descent-new, descent-none, descent-there, descent-zero, no_rest}
use Rattle.overlay_merge.proofs.ReachLemmas.{no_layers}

-- ---- the layer below a kid at which no node is

abbrev HaveRoom : List ℕ → List Layer → Type 0
HaveRoom name layers = All (λ (layer : Layer). is_path (kid layer.path name) ≡ true) layers

-- the kid of the layer below is the layer below the kid
record IsBelowKid (tree : Content) (path : List (List ℕ)) (name : List ℕ) (above : Layer) : Type 0 where
  layer : Layer
  below : layer_below tree (kid path name) ≡ Some layer
  kid_is : layer.path ≡ kid above.path name

path_of_made : (whole : List (List ℕ)) (common : ℕ) (valid : Bool) (above : Layer) → option_map (override_layer common) (cond valid (Some whole) None) ≡ Some above → above.path ≡ whole
path_of_made whole common false above e = absurd (cc)
path_of_made whole common true above e = sym (ap (λ o. (unwrap_or o above).path) e)

placed_below : (tree : Content) (path : List (List ℕ)) (name text : List ℕ) (n : ℕ) (place : Option (List (List ℕ))) (above : Layer) → n ≤ length path
    → base_of tree (kid path name) ≡ Some (base_at n text) → place_of tree text ≡ place
    → option_map (override_layer (length path - n)) (option_and_then (λ p. path_at p path n) place) ≡ Some above → is_path (kid above.path name) ≡ true → IsBelowKid tree path name above
placed_below tree path name text n None above within base place e valid = absurd (cc)
placed_below tree path name text n (Some place) above within base place_is e valid =
    let above_is : above.path ≡ place ++ drop n path = path_of_made (place ++ drop n path) (length path - n) (is_path (place ++ drop n path)) above e in
    let whole : place ++ drop n (kid path name) ≡ kid above.path name =
    ap (λ l. place ++ l) (drop-append-le n path (name ∷ []) within) ∙ sym (append_assoc place (drop n path) (name ∷ [])) ∙ ap (λ p. kid p name) (sym above_is) in
    let common = length (kid path name) - n in
    record {
      layer = override_layer common (kid above.path name);
      below = below_is tree (kid path name) n text place base place_is ∙ ap (λ p. option_map (override_layer common) (path_or_none p)) whole
          ∙ ap (λ t. option_map (override_layer common) (cond t (Some (kid above.path name)) None)) valid;
      kid_is = refl;
    }

based_below : (tree : Content) (path : List (List ℕ)) (name : List ℕ) (base : Option (ℕ × List ℕ)) (above : Layer) → base_of tree path ≡ base → base_of tree (kid path name) ≡ base
    → option_and_then (layer_by tree path) base ≡ Some above → is_path (kid above.path name) ≡ true → IsBelowKid tree path name above
based_below tree path name None above base base_too e valid = absurd (cc)
based_below tree path name (Some (n, text)) above base base_too e valid =
    let less = base_less tree path (suc (length path)) n text (base_is tree path ∙ base) in
    placed_below tree path name text n (place_of tree text) above (omega (arith, less)) base_too refl e valid

kid_below : (tree : Content) (path : List (List ℕ)) (name : List ℕ) (above : Layer) → IsTree (node_at tree) → node_at tree (kid path name) ≡ None
    → layer_below tree path ≡ Some above → is_path (kid above.path name) ≡ true → IsBelowKid tree path name above
unfolding layer_below
kid_below tree path name above good none e valid =
    based_below tree path name (base_of tree path) above refl (base_kid tree path name good none) e valid

-- ---- the layers of an override

-- the first of layers one of which has the kid has room for it
first_room : (tree : Content) (name : List ℕ) (n : ℕ) (layers : List Layer) (first : Layer) → HaveRoom name (descent tree n layers (Some first))
    → has_kid_node tree name (descent tree n layers (Some first)) ≡ true → is_path (kid first.path name) ≡ true
first_room tree name zero layers first room there = absurd (false≢true (sym (ap (has_kid_node tree name) (descent-zero tree layers (Some first))) ∙ there))
first_room tree name (suc n) layers first room there =
    ⊎_elim (λ (repeats : has_layer layers first.path ≡ true).
    absurd (false≢true (sym (ap (has_kid_node tree name) (descent-there tree (suc n) layers first repeats)) ∙ there)))
    (λ (new : has_layer layers first.path ≡ false).
    All-head (λ (layer : Layer). is_path (kid layer.path name) ≡ true) first (descent tree n (layers ++ first ∷ []) (layer_below tree first.path))
    (subst (HaveRoom name) (descent-new tree n layers first new) room)) (cases_Bool (has_layer layers first.path))

module _ (tree : Content) (good : IsTree (node_at tree)) (name : List ℕ) where
  next_has : (n : ℕ) (kids layers : List Layer) (next : Option Layer) (path : List (List ℕ)) → layer_below tree path ≡ next → node_at tree (kid path name) ≡ None
      → ((k above : Layer) → k.path ≡ kid above.path name → HaveRoom name (descent tree n layers (Some above)) → has_kid_node tree name (descent tree n layers (Some above)) ≡ true
      → has_node tree (descent tree n kids (Some k)) ≡ true)
      → HaveRoom name (descent tree n layers next) → has_kid_node tree name (descent tree n layers next) ≡ true → has_node tree (descent tree n kids (layer_below tree (kid path name))) ≡ true
  next_has n kids layers None path is none each room there = absurd (false≢true (sym (ap (has_kid_node tree name) (descent-none tree n layers)) ∙ there))
  next_has n kids layers (Some above) path is none each room there =
      let below = kid_below tree path name above good none is (first_room tree name n layers above room there) in
      ap (λ o. has_node tree (descent tree n kids o)) below.below ∙ each below.layer above below.kid_is room there

  descent_has : (n : ℕ) (kids layers : List Layer) (top layer : Layer) → AreKids name kids layers → top.path ≡ kid layer.path name → HaveRoom name (descent tree n layers (Some layer))
      → has_kid_node tree name (descent tree n layers (Some layer)) ≡ true → has_node tree (descent tree n kids (Some top)) ≡ true
  descent_has zero kids layers top layer are is room there = absurd (false≢true (sym (ap (has_kid_node tree name) (descent-zero tree layers (Some layer))) ∙ there))
  descent_has (suc n) kids layers top layer are is room there =
      ⊎_elim (λ (repeats : has_layer layers layer.path ≡ true).
      absurd (false≢true (sym (ap (has_kid_node tree name) (descent-there tree (suc n) layers layer repeats)) ∙ there)))
      (λ (new : has_layer layers layer.path ≡ false).
      let fresh : has_layer kids top.path ≡ false = ap (has_layer kids) is ∙ are layer.path ∙ new in
      let rest = descent tree n (layers ++ layer ∷ []) (layer_below tree layer.path) in
      let kid_rest = descent tree n (kids ++ top ∷ []) (layer_below tree top.path) in
      let some : (is_some (node_at tree (kid layer.path name)) || has_kid_node tree name rest) ≡ true = sym (ap (has_kid_node tree name) (descent-new tree n layers layer new)) ∙ there in
      let more : AreKids name (kids ++ top ∷ []) (layers ++ layer ∷ []) = more_kids name kids layers top layer are is in
      let below_room : HaveRoom name rest = All-tail (λ (l : Layer). is_path (kid l.path name) ≡ true) layer rest (subst (HaveRoom name) (descent-new tree n layers layer new) room) in
      ap (has_node tree) (descent-new tree n kids top fresh)
      ∙ ⊎_elim (λ (here : is_some (node_at tree (kid layer.path name)) ≡ true). or_left (is_some (node_at tree top.path)) (has_node tree kid_rest) (ap (λ p. is_some (node_at tree p)) is ∙ here))
      (λ (missing : is_some (node_at tree (kid layer.path name)) ≡ false).
      let none : node_at tree (kid layer.path name) ≡ None = none_from_test (node_at tree (kid layer.path name)) missing in
      let later : has_kid_node tree name rest ≡ true = or_second (is_some (node_at tree (kid layer.path name))) (has_kid_node tree name rest) missing some in
      or_right (is_some (node_at tree top.path)) (has_node tree kid_rest)
      (ap (λ p. has_node tree (descent tree n (kids ++ top ∷ []) (layer_below tree p))) is
      ∙ next_has n (kids ++ top ∷ []) (layers ++ layer ∷ []) (layer_below tree layer.path) layer.path refl none
      (λ k above kid_is. descent_has n (kids ++ top ∷ []) (layers ++ layer ∷ []) k above more kid_is) below_room later)) (cases_Bool (is_some (node_at tree (kid layer.path name)))))
      (cases_Bool (has_layer layers layer.path))

-- ---- the layers of a kid

has_of_layers : (tree : Content) (name seg : List ℕ) (rest : List (List ℕ)) (overlay override : Bool) → IsTree (node_at tree)
    → HaveRoom name (cond overlay (overlay_layers (seg ∷ rest)) (cond override (override_layers tree (seg ∷ rest)) []))
    → has_kid_node tree name (cond overlay (overlay_layers (seg ∷ rest)) (cond override (override_layers tree (seg ∷ rest)) [])) ≡ true
    → has_node tree (cond overlay (overlay_layers (seg ∷ kid rest name)) (cond override (override_layers tree (seg ∷ kid rest name)) [])) ≡ true
has_of_layers tree name seg rest true override good room there = there
has_of_layers tree name seg rest false true good room there =
    let layers = descent tree 32 [] (Some (override_layer 0 (seg ∷ rest))) in
    any-reverse (λ (layer : Layer). is_some (node_at tree layer.path)) (descent tree 32 [] (Some (override_layer 0 (seg ∷ kid rest name))))
    ∙ descent_has tree good name 32 [] [] (override_layer 0 (seg ∷ kid rest name)) (override_layer 0 (seg ∷ rest)) (none_kids name) refl
    (All-permutation (λ (layer : Layer). is_path (kid layer.path name) ≡ true) (reverse layers) layers (IsPermutation-sym layers (reverse layers) (IsPermutation-reverse layers)) room)
    (sym (any-reverse (λ (layer : Layer). is_some (node_at tree (kid layer.path name))) layers) ∙ there)
has_of_layers tree name seg rest false false good room there = absurd (false≢true there)

no_kid_node : (tree : Content) (path : List (List ℕ)) (name : List ℕ) → length path ≤ 2 → has_kid_node tree name (layers_of tree path) ≡ true → has_node tree (layers_of tree (kid path name)) ≡ true
unfolding layers_of
no_kid_node tree path name small there =
    absurd (false≢true (sym (ap (has_kid_node tree name) (no_layers tree path (drop 2 path) (no_rest path small) (is_overlay path) (is_override path))) ∙ there))

-- where a layer has the kid as a node, some layer of the kid is a node
has_kid : (tree : Content) (path : List (List ℕ)) (name : List ℕ) → IsTree (node_at tree) → HaveRoom name (layers_of tree path)
    → has_kid_node tree name (layers_of tree path) ≡ true → has_node tree (layers_of tree (kid path name)) ≡ true
unfolding layers_of
has_kid tree [] name good room there = no_kid_node tree [] name (omega arith) there
has_kid tree (a ∷ []) name good room there = no_kid_node tree (a ∷ []) name (omega arith) there
has_kid tree (a ∷ b ∷ []) name good room there = no_kid_node tree (a ∷ b ∷ []) name (omega arith) there
has_kid tree (a ∷ b ∷ seg ∷ rest) name good room there =
    has_of_layers tree name seg rest (is_overlay (a ∷ b ∷ seg ∷ rest)) (is_override (a ∷ b ∷ seg ∷ rest)) good room there

-- ---- what isn't cut is left

one_res : (path : List (List ℕ)) (o : Option Node) → is_some o ≡ true → length (resource_list (option_map (res_of path) o)) ≡ 1
one_res path None e = absurd (false≢true e)
one_res path (Some node) e = refl

some_left : (tree : Content) (layers : List Layer) → ((lower upper : List Layer) (layer : Layer) → layers ≡ lower ++ layer ∷ upper → layer_is_cut tree layer upper ≡ false)
    → has_node tree layers ≡ true → 0 < length (shown_resources tree layers)
unfolding shown_resources
some_left tree [] left there = absurd (false≢true there)
some_left tree (layer ∷ above) left there =
    let size : length (shown_resources tree (layer ∷ above)) ≡ length (shown_resource tree layer above) + length (shown_resources tree above) = length-append (shown_resource tree layer above) (shown_resources tree above) in
    ⊎_elim (λ (here : is_some (node_at tree layer.path) ≡ true).
    let one : length (shown_resource tree layer above) ≡ 1 = ap (λ t. length (cond t [] (resource_list (res_at tree layer.path)))) (left [] above layer refl) ∙ one_res layer.path (node_at tree layer.path) here in
    omega (arith, size, one))
    (λ (missing : is_some (node_at tree layer.path) ≡ false).
    let more = some_left tree above (λ lower upper l is. left (layer ∷ lower) upper l (ap (λ (ls : List Layer). layer ∷ ls) is)) (or_second (is_some (node_at tree layer.path)) (has_node tree above) missing there) in
    omega (arith, size, more)) (cases_Bool (is_some (node_at tree layer.path)))

-- a kid of a node at a layer is there, where none of its layers is cut
kid_left : (tree : Content) (path : List (List ℕ)) (name : List ℕ) → IsTree (node_at tree) → NoLayerIsCut tree (kid path name) → HasRoomFor tree path name
    → has_kid_node tree name (layers_of tree path) ≡ true → is_merged_there tree (kid path name) ≡ true
unfolding merged_from
kid_left tree path name good left room there =
    ap (λ t. not (length (cond t (shown_resources tree (layers_of tree (kid path name))) []) == 0)) room.below_path
    ∙ ap not (not_zero (length (shown_resources tree (layers_of tree (kid path name)))) (some_left tree (layers_of tree (kid path name)) left (has_kid tree path name good room.below_layers there)))

kid_of_one : (tree : Content) (name : List ℕ) (lower upper : List Layer) (layer : Layer) → is_some (node_at tree (kid layer.path name)) ≡ true → has_kid_node tree name (lower ++ layer ∷ upper) ≡ true
kid_of_one tree name [] upper layer there = or_left (is_some (node_at tree (kid layer.path name))) (has_kid_node tree name upper) there
kid_of_one tree name (l ∷ lower) upper layer there =
    or_right (is_some (node_at tree (kid l.path name))) (has_kid_node tree name (lower ++ layer ∷ upper)) (kid_of_one tree name lower upper layer there)

has_itself : (names : List (List ℕ)) (k : ℕ) (d : List ℕ) → k < length names → has_text names (get_or names k d) ≡ true
has_itself [] k d less = absurd (omega (arith, less))
has_itself (name ∷ names) zero d less = or_left (pointwise nat_eq name name) (has_text names name) (text_itself name)
has_itself (name ∷ names) (suc k) d less =
    or_right (pointwise nat_eq (get_or names k d) name) (has_text names (get_or names k d)) (has_itself names k d (omega (arith, less)))

-- each kid of the node at a layer is there, where no layer of it is cut
pub kids_left : (tree : Content) (path : List (List ℕ)) (lower upper : List Layer) (layer : Layer) (res : Resource) → IsTree (node_at tree) → layers_of tree path ≡ lower ++ layer ∷ upper
    → res_at tree layer.path ≡ Some res → All (λ (name : List ℕ). NoLayerIsCut tree (kid path name)) res.kids → All (λ (name : List ℕ). HasRoomFor tree path name) res.kids
    → All (λ (name : List ℕ). is_merged_there tree (kid path name) ≡ true) res.kids
kids_left tree path lower upper layer res good layers there left room k d less =
    let name = get_or res.kids k d in
    let at = node_of tree layer.path res (node_at tree layer.path) refl there in
    let same : res.path ≡ layer.path = ap (λ (r : Resource). r.path) at.1.1 in
    let found : is_some (node_at tree (kid layer.path name)) ≡ true =
    sym (ap (λ p. is_some (node_at tree (kid p name))) same) ∙ sym (kid_is tree res name good (ap (res_at tree) same ∙ there)) ∙ has_itself res.kids k d less in
    kid_left tree path name good (left k d less) (room k d less) (ap (has_kid_node tree name) layers ∙ kid_of_one tree name lower upper layer found)

-- ---- where no node hides anything

none_below : (n : ℕ) (p : ℕ → Bool) → ((k : ℕ) → p k ≡ false) → some_below n p ≡ false
none_below zero p none = refl
none_below (suc n) p none = ap (λ t. t || some_below n p) (none n) ∙ none_below n p none

any_none : {X : Type 0} (p : X → Bool) (xs : List X) → ((x : X) → p x ≡ false) → list_any p xs ≡ false
any_none p [] none = refl
any_none p (x ∷ xs) none = ap (λ t. t || list_any p xs) (none x) ∙ any_none p xs none

no_resource : (tree : Content) (n : ℕ) (path : List (List ℕ)) → HidesNothing tree → hides_resource_within tree n path ≡ false
no_resource tree n path hides =
    none_below (length path + 1) (λ k. is_within n path k && hides_resource_at tree (take k path)) (λ k. and_right (is_within n path k) (hides_resource_at tree (take k path)) (hides.resources (take k path)))

no_kid : (tree : Content) (n : ℕ) (path : List (List ℕ)) → HidesNothing tree → hides_kid_within tree n path ≡ false
no_kid tree n path hides =
    none_below (length path) (λ k. is_within n path k && hides_kid_at tree (take k path) (slice_index_or path k []))
    (λ k. and_right (is_within n path k) (hides_kid_at tree (take k path) (slice_index_or path k [])) (hides.kids (take k path) (slice_index_or path k [])))

pub nothing_cut : (tree : Content) (path : List (List ℕ)) → HidesNothing tree → NoLayerIsCut tree path
unfolding layer_is_cut
nothing_cut tree path hides lower upper layer is =
    ap (λ t. t || list_any (is_hidden_by tree) (in_common layer.common upper)) (no_resource tree layer.own layer.path hides)
    ∙ any_none (is_hidden_by tree) (in_common layer.common upper)
    (λ (u : ℕ × List (List ℕ)). ap (λ t. t || hides_kid_within tree u.0 u.1) (no_resource tree u.0 u.1 hides) ∙ no_kid tree u.0 u.1 hides)
