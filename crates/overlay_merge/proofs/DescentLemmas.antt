-- What the layers of a path and those of its kids have to do with each other: where a node is at a layer of a kid, some layer of the path has it as its kid.
use Rattle.std.proofs.Common.{◌≡◌, ◌-◌, ◌<◌, ◌≤◌, ◌++◌, ◌||◌, ◌==◌, ◌⊎◌, inl, inr, ℕ, zero, suc, Bool, true, false, not, cond, List, [], ◌∷◌, Option, Some, None, take, drop, length, length-append, append_assoc, refl, sym, ◌∙◌, ap, arith, ⊎_elim}
use Rattle.std.specs.Prelude.{is_some, option_and_then, option_map, reverse, unwrap_or}
use Rattle.std.specs.Option.{option_or}
use Rattle.std.specs.List.{list_any}
use Rattle.std.proofs.lemmas.Bool.{true≢false, false≢true, cases_Bool, or_left, or_parts, or_right}
use Rattle.std.proofs.lemmas.List.{append_cancel_right, drop-append-le, take-append-le}
use Rattle.std.proofs.lemmas.List.Folds.{list_any-append}
use Rattle.std.proofs.lemmas.List.Sorted.{IsPermutation-reverse, list_any-IsPermutation}
use Rattle.std.proofs.Math.Seq.{take-length}
use Rattle.sp_base.specs.Paths.{is_path, path_or_none}
use Rattle.sp_base.proofs.OptionLemmas.{none_from_test}
use Rattle.sp_base.proofs.PathTests.{path_before}
use Rattle.resource_tree.specs.Content.{Content, IsTree, kid, node_at, same_path}
use Rattle.resource_tree.specs.Seen.{Resource, res_at, res_of}
use Rattle.resource_tree.specs.declared.nodes.Node.{Node}
use Rattle.resource_tree.proofs.PathLemmas.{path_from_same, same_path_self}
use Rattle.type_chain.specs.Chain.{super_at}
use Rattle.type_chain.specs.Types.{place_of}
use Rattle.url_split.specs.Split.{at_greatest}
use Rattle.overlay_merge.specs.declared.layers.Layer.{Layer}
use Rattle.overlay_merge.specs.Roots.{is_merged_path, is_overlay, is_override}
use Rattle.overlay_merge.specs.Layers.{base_at, base_of, descent, has_layer, layer_below, layer_by, has_node, layers_of, overlay_layers, override_layer, override_layers, path_at}
use Rattle.overlay_merge.specs.Hiding.{layer_is_cut, resource_list, merged_from, shown_resources}
use Rattle.overlay_merge.specs.Merged.{has_resource}
use Rattle.overlay_merge.specs.Walk.{has_kid_node}
use Rattle.overlay_merge.proofs.LayerLemmas.{base_below, base_ends, base_is, descent-new, descent-none, descent-there, descent-zero}
use Rattle.overlay_merge.proofs.MergedLemmas.{has_merged}

-- ---- one path or two

-- kids of one name are one path where those above them are
same_kid : (a b : List (List ℕ)) (name : List ℕ) → same_path (kid a name) (kid b name) ≡ same_path a b
same_kid a b name =
    ⊎_elim (λ (one : same_path a b ≡ true). ap (λ p. same_path (kid p name) (kid b name)) (path_from_same a b one) ∙ same_path_self (kid b name) ∙ sym one)
    (λ (two : same_path a b ≡ false).
    ⊎_elim (λ (one : same_path (kid a name) (kid b name) ≡ true).
    let same : a ≡ b = append_cancel_right a b (name ∷ []) (path_from_same (kid a name) (kid b name) one) in
    absurd (true≢false (sym (same_path_self b) ∙ ap (λ p. same_path p b) (sym same) ∙ two)))
    (λ (e : same_path (kid a name) (kid b name) ≡ false). e ∙ sym two) (cases_Bool (same_path (kid a name) (kid b name)))) (cases_Bool (same_path a b))

-- ---- the layer below a kid at which no node is

greatest_same : {A : Type 0} (f g : ℕ → Option A) (n : ℕ) → ((k : ℕ) → k < n → f k ≡ g k) → at_greatest f n ≡ at_greatest g n
greatest_same f g zero same = refl
greatest_same f g (suc n) same =
    ap (λ o. option_or o (at_greatest f n)) (same n (omega arith)) ∙ ap (option_or (g n)) (greatest_same f g n (λ k less. same k (omega (arith, less))))

pub base_kid : (tree : Content) (path : List (List ℕ)) (name : List ℕ) → IsTree (node_at tree) → node_at tree (kid path name) ≡ None → base_of tree (kid path name) ≡ base_of tree path
base_kid tree path name good none =
    let size : length (kid path name) ≡ suc (length path) = omega (arith, length-append path (name ∷ [])) in
    let at_kid : node_at tree (take (length (kid path name)) (kid path name)) ≡ None = ap (node_at tree) (take-length (kid path name)) ∙ none in
    sym (base_is tree (kid path name)) ∙ sym (base_ends tree (kid path name) (length (kid path name)) good at_kid (omega arith)) ∙ ap (base_below tree (kid path name)) size
    ∙ greatest_same (λ k. option_map (base_at k) (super_at tree (take k (kid path name)))) (λ k. option_map (base_at k) (super_at tree (take k path))) (suc (length path))
    (λ k less. ap (λ p. option_map (base_at k) (super_at tree p)) (take-append-le k path (name ∷ []) (omega (arith, less))))
    ∙ base_is tree path

base_step : (n b : ℕ) (t : List ℕ) (text : Option (List ℕ)) (rest : Option (ℕ × List ℕ)) → option_or (option_map (base_at n) text) rest ≡ Some (base_at b t) → (b ≡ n) ⊎ (rest ≡ Some (base_at b t))
base_step n b t None rest e = inr e
base_step n b t (Some text) rest e = inl (sym (ap (λ o. (unwrap_or o (base_at b t)).0) e))

pub base_less : (tree : Content) (path : List (List ℕ)) (n b : ℕ) (t : List ℕ) → base_below tree path n ≡ Some (base_at b t) → b < n
base_less tree path zero b t e = absurd (cc)
base_less tree path (suc n) b t e =
    ⊎_elim (λ (last : b ≡ n). omega (arith, last)) (λ (rest : base_below tree path n ≡ Some (base_at b t)). let less = base_less tree path n b t rest in omega (arith, less))
    (base_step n b t (super_at tree (take n path)) (base_below tree path n) e)

-- the layer below a kid is the kid of the layer below
record IsKidLayer (tree : Content) (path : List (List ℕ)) (name : List ℕ) (layer : Layer) : Type 0 where
  above : Layer
  below : layer_below tree path ≡ Some above
  kid_is : layer.path ≡ kid above.path name

made_kid : (tree : Content) (path place : List (List ℕ)) (name : List ℕ) (n common : ℕ) (valid : Bool) (layer : Layer) → is_path (kid (place ++ drop n path) name) ≡ valid
    → layer_below tree path ≡ option_map (override_layer (length path - n)) (path_at place path n)
    → option_map (override_layer common) (cond valid (Some (kid (place ++ drop n path) name)) None) ≡ Some layer → IsKidLayer tree path name layer
made_kid tree path place name n common false layer valid below e = absurd (cc)
made_kid tree path place name n common true layer valid below e =
    let shorter : is_path (place ++ drop n path) ≡ true = path_before (place ++ drop n path) (name ∷ []) valid in
    record {
      above = override_layer (length path - n) (place ++ drop n path);
      below = below ∙ ap (λ t. option_map (override_layer (length path - n)) (cond t (Some (place ++ drop n path)) None)) shorter;
      kid_is = sym (ap (λ o. (unwrap_or o layer).path) e);
    }

placed_kid : (tree : Content) (path : List (List ℕ)) (name text : List ℕ) (n : ℕ) (place : Option (List (List ℕ))) (layer : Layer) → n ≤ length path
    → base_of tree path ≡ Some (base_at n text) → place_of tree text ≡ place
    → option_map (override_layer (length (kid path name) - n)) (option_and_then (λ p. path_at p (kid path name) n) place) ≡ Some layer → IsKidLayer tree path name layer
unfolding layer_below
placed_kid tree path name text n None layer within base place e = absurd (cc)
placed_kid tree path name text n (Some place) layer within base place_is e =
    let whole : place ++ drop n (kid path name) ≡ kid (place ++ drop n path) name =
    ap (λ l. place ++ l) (drop-append-le n path (name ∷ []) within) ∙ sym (append_assoc place (drop n path) (name ∷ [])) in
    let below : layer_below tree path ≡ option_map (override_layer (length path - n)) (path_at place path n) =
    ap (option_and_then (layer_by tree path)) base ∙ ap (λ o. option_map (override_layer (length path - n)) (option_and_then (λ (p : List (List ℕ)). path_at p path n) o)) place_is in
    made_kid tree path place name n (length (kid path name) - n) (is_path (kid (place ++ drop n path) name)) layer refl below
    (sym (ap (λ p. option_map (override_layer (length (kid path name) - n)) (path_or_none p)) whole) ∙ e)

based_kid : (tree : Content) (path : List (List ℕ)) (name : List ℕ) (base : Option (ℕ × List ℕ)) (layer : Layer) → base_of tree path ≡ base
    → option_and_then (layer_by tree (kid path name)) base ≡ Some layer → IsKidLayer tree path name layer
based_kid tree path name None layer base e = absurd (cc)
based_kid tree path name (Some (n, text)) layer base e =
    let less = base_less tree path (suc (length path)) n text (base_is tree path ∙ base) in
    placed_kid tree path name text n (place_of tree text) layer (omega (arith, less)) base refl e

below_kid : (tree : Content) (path : List (List ℕ)) (name : List ℕ) (layer : Layer) → IsTree (node_at tree) → node_at tree (kid path name) ≡ None
    → layer_below tree (kid path name) ≡ Some layer → IsKidLayer tree path name layer
unfolding layer_below
below_kid tree path name layer good none e =
    based_kid tree path name (base_of tree path) layer refl (sym (ap (option_and_then (layer_by tree (kid path name))) (base_kid tree path name good none)) ∙ e)

-- ---- the layers of an override

abbrev pub AreKids : List ℕ → List Layer → List Layer → Type 0
AreKids name kids layers = (p : List (List ℕ)) → has_layer kids (kid p name) ≡ has_layer layers p

pub more_kids : (name : List ℕ) (kids layers : List Layer) (k layer : Layer) → AreKids name kids layers → k.path ≡ kid layer.path name → AreKids name (kids ++ k ∷ []) (layers ++ layer ∷ [])
more_kids name kids layers k layer so_far is p =
    list_any-append (λ (l : Layer). same_path l.path (kid p name)) kids (k ∷ [])
    ∙ ap (λ t. t || (same_path k.path (kid p name) || false)) (so_far p)
    ∙ ap (λ t. has_layer layers p || (t || false)) (ap (λ q. same_path q (kid p name)) is ∙ same_kid layer.path p name)
    ∙ sym (list_any-append (λ (l : Layer). same_path l.path p) layers (layer ∷ []))

pub or_second : (a b : Bool) → a ≡ false → (a || b) ≡ true → b ≡ true
or_second true b is e = absurd (true≢false is)
or_second false b is e = e

module _ (tree : Content) (good : IsTree (node_at tree)) (name : List ℕ) where
  next_kid : (n : ℕ) (kids layers : List Layer) (top : Option Layer) (layer : Layer)
      → ((k above : Layer) → k.path ≡ kid above.path name → has_node tree (descent tree n kids (Some k)) ≡ true → has_kid_node tree name (descent tree n layers (Some above)) ≡ true)
      → ((k : Layer) → top ≡ Some k → IsKidLayer tree layer.path name k)
      → has_node tree (descent tree n kids top) ≡ true → has_kid_node tree name (descent tree n layers (layer_below tree layer.path)) ≡ true
  next_kid n kids layers None layer each next there = absurd (false≢true (sym (ap (has_node tree) (descent-none tree n kids)) ∙ there))
  next_kid n kids layers (Some k) layer each next there =
      let is = next k refl in
      ap (λ o. has_kid_node tree name (descent tree n layers o)) is.below ∙ each k is.above is.kid_is there

  descent_kid : (n : ℕ) (kids layers : List Layer) (top layer : Layer) → AreKids name kids layers → top.path ≡ kid layer.path name
      → has_node tree (descent tree n kids (Some top)) ≡ true → has_kid_node tree name (descent tree n layers (Some layer)) ≡ true
  descent_kid zero kids layers top layer are is there = absurd (false≢true (sym (ap (has_node tree) (descent-zero tree kids (Some top))) ∙ there))
  descent_kid (suc n) kids layers top layer are is there =
      ⊎_elim (λ (repeats : has_layer layers layer.path ≡ true).
      absurd (false≢true (sym (ap (has_node tree) (descent-there tree (suc n) kids top (ap (has_layer kids) is ∙ are layer.path ∙ repeats))) ∙ there)))
      (λ (new : has_layer layers layer.path ≡ false).
      let fresh : has_layer kids top.path ≡ false = ap (has_layer kids) is ∙ are layer.path ∙ new in
      let rest = descent tree n (kids ++ top ∷ []) (layer_below tree top.path) in
      let kid_rest = descent tree n (layers ++ layer ∷ []) (layer_below tree layer.path) in
      let some : (is_some (node_at tree top.path) || has_node tree rest) ≡ true = sym (ap (has_node tree) (descent-new tree n kids top fresh)) ∙ there in
      let more : AreKids name (kids ++ top ∷ []) (layers ++ layer ∷ []) = more_kids name kids layers top layer are is in
      ap (has_kid_node tree name) (descent-new tree n layers layer new)
      ∙ ⊎_elim (λ (here : is_some (node_at tree (kid layer.path name)) ≡ true). or_left (is_some (node_at tree (kid layer.path name))) (has_kid_node tree name kid_rest) here)
      (λ (missing : is_some (node_at tree (kid layer.path name)) ≡ false).
      let none : node_at tree (kid layer.path name) ≡ None = none_from_test (node_at tree (kid layer.path name)) missing in
      let later : has_node tree rest ≡ true = or_second (is_some (node_at tree top.path)) (has_node tree rest) (ap (λ p. is_some (node_at tree p)) is ∙ missing) some in
      or_right (is_some (node_at tree (kid layer.path name))) (has_kid_node tree name kid_rest)
      (next_kid n (kids ++ top ∷ []) (layers ++ layer ∷ []) (layer_below tree top.path) layer
      (λ k above kid_is. descent_kid n (kids ++ top ∷ []) (layers ++ layer ∷ []) k above more kid_is)
      (λ k below. below_kid tree layer.path name k good none (ap (layer_below tree) (sym is) ∙ below)) later)) (cases_Bool (is_some (node_at tree (kid layer.path name)))))
      (cases_Bool (has_layer layers layer.path))

-- ---- the layers of a kid

pub none_kids : (name : List ℕ) → AreKids name [] []
none_kids name p = refl

pub any-reverse : {A : Type 0} (p : A → Bool) (xs : List A) → list_any p (reverse xs) ≡ list_any p xs
any-reverse p xs = sym (list_any-IsPermutation p xs (reverse xs) (IsPermutation-reverse xs))

kid_of_layers : (tree : Content) (name seg : List ℕ) (rest : List (List ℕ)) (overlay override : Bool) → IsTree (node_at tree)
    → has_node tree (cond overlay (overlay_layers (seg ∷ kid rest name)) (cond override (override_layers tree (seg ∷ kid rest name)) [])) ≡ true
    → has_kid_node tree name (cond overlay (overlay_layers (seg ∷ rest)) (cond override (override_layers tree (seg ∷ rest)) [])) ≡ true
kid_of_layers tree name seg rest true override good there = there
kid_of_layers tree name seg rest false true good there =
    any-reverse (λ (layer : Layer). is_some (node_at tree (kid layer.path name))) (descent tree 32 [] (Some (override_layer 0 (seg ∷ rest))))
    ∙ descent_kid tree good name 32 [] [] (override_layer 0 (seg ∷ kid rest name)) (override_layer 0 (seg ∷ rest)) (none_kids name) refl
    (sym (any-reverse (λ (layer : Layer). is_some (node_at tree layer.path)) (descent tree 32 [] (Some (override_layer 0 (seg ∷ kid rest name))))) ∙ there)
kid_of_layers tree name seg rest false false good there = absurd (false≢true there)

-- where a node is at a layer of a kid, it is a kid of some layer
pub kid_of_some : (tree : Content) (path : List (List ℕ)) (name : List ℕ) → IsTree (node_at tree) → 2 < length path
    → has_node tree (layers_of tree (kid path name)) ≡ true → has_kid_node tree name (layers_of tree path) ≡ true
unfolding layers_of
kid_of_some tree [] name good deep there = absurd (omega (arith, deep))
kid_of_some tree (a ∷ []) name good deep there = absurd (omega (arith, deep))
kid_of_some tree (a ∷ b ∷ []) name good deep there = absurd (omega (arith, deep))
kid_of_some tree (a ∷ b ∷ seg ∷ rest) name good deep there =
    kid_of_layers tree name seg rest (is_overlay (a ∷ b ∷ seg ∷ rest)) (is_override (a ∷ b ∷ seg ∷ rest)) good there

some_above : (tree : Content) (layers : List Layer) (name : List ℕ) → IsTree (node_at tree) → has_kid_node tree name layers ≡ true → has_node tree layers ≡ true
some_above tree [] name good there = absurd (false≢true there)
some_above tree (layer ∷ layers) name good there =
    ⊎_elim (λ (here : is_some (node_at tree (kid layer.path name)) ≡ true). or_left (is_some (node_at tree layer.path)) (has_node tree layers) (good.parents layer.path name here))
    (λ (missing : is_some (node_at tree (kid layer.path name)) ≡ false).
    or_right (is_some (node_at tree layer.path)) (has_node tree layers)
    (some_above tree layers name good (or_second (is_some (node_at tree (kid layer.path name))) (has_kid_node tree name layers) missing there)))
    (cases_Bool (is_some (node_at tree (kid layer.path name))))

-- so some layer of the path is a node too
pub parent_there : (tree : Content) (path : List (List ℕ)) (name : List ℕ) → IsTree (node_at tree) → 2 < length path
    → has_node tree (layers_of tree (kid path name)) ≡ true → has_node tree (layers_of tree path) ≡ true
parent_there tree path name good deep there = some_above tree (layers_of tree path) name good (kid_of_some tree path name good deep there)

-- ---- what is merged is at a node

none_res : (tree : Content) (path : List (List ℕ)) (o : Option Node) → is_some o ≡ false → resource_list (option_map (res_of path) o) ≡ []
none_res tree path None e = refl
none_res tree path (Some node) e = absurd (true≢false e)

cut_none : {A : Type 0} (cut : Bool) (xs : List A) → xs ≡ [] → cond cut [] xs ≡ []
cut_none true xs e = refl
cut_none false xs e = e

-- where no layer is a node nothing is merged
pub no_node_merged : (tree : Content) (layers : List Layer) → has_node tree layers ≡ false → shown_resources tree layers ≡ []
unfolding shown_resources
no_node_merged tree [] none = refl
no_node_merged tree (layer ∷ above) none =
    let both = or_parts (is_some (node_at tree layer.path)) (has_node tree above) none in
    ap (λ l. l ++ shown_resources tree above) (cut_none (layer_is_cut tree layer above) (resource_list (res_at tree layer.path)) (none_res tree layer.path (node_at tree layer.path) both.0))
    ∙ no_node_merged tree above both.1

if_none : {A : Type 0} (valid : Bool) (xs : List A) → xs ≡ [] → cond valid xs [] ≡ []
if_none true xs e = e
if_none false xs e = refl

pub merged_at_node : (tree : Content) (path : List (List ℕ)) → is_merged_path path ≡ true → has_resource tree path ≡ true → has_node tree (layers_of tree path) ≡ true
unfolding merged_from
merged_at_node tree path is there =
    ⊎_elim (λ (some : has_node tree (layers_of tree path) ≡ true). some)
    (λ (none : has_node tree (layers_of tree path) ≡ false).
    let nothing : merged_from tree path ≡ [] = if_none (is_path path) (shown_resources tree (layers_of tree path)) (no_node_merged tree (layers_of tree path) none) in
    absurd (false≢true (sym (ap (λ (l : List Resource). not (length l == 0)) nothing) ∙ sym (has_merged tree path is) ∙ there)))
    (cases_Bool (has_node tree (layers_of tree path)))

pub none_merged : (tree : Content) (path : List (List ℕ)) (layers : List Layer) (list : List Resource) → list ≡ [] → layers ≡ layers_of tree path → has_node tree layers ≡ false
    → list ≡ merged_from tree path
unfolding merged_from
none_merged tree path layers list list_is is none =
    list_is ∙ sym (if_none (is_path path) (shown_resources tree (layers_of tree path)) (no_node_merged tree (layers_of tree path) (ap (has_node tree) (sym is) ∙ none)))
