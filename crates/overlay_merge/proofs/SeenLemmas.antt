-- What is seen comes from layers that aren't cut.
use Rattle.std.proofs.Common.{◌≡◌, ◌++◌, ◌||◌, ℕ, Bool, true, false, not, cond, List, [], ◌∷◌, Option, Some, None, get_or, append-nil, append_assoc, refl, sym, ◌∙◌, ap, subst, ⊎_elim}
use Rattle.std.specs.Prelude.{All, codes, filter, fold, is_some, option_map, unwrap_or}
use Rattle.std.specs.List.{Contains, list_any}
use Rattle.std.specs.List.Sorted.{IsPermutation}
use Rattle.std.specs.declared.cmp.Ordering.TheVariants.{Less, Equal, Greater}
use Rattle.std.specs.FinMap.Entries.{below_all, by_order, find, is_sorted, put}
use Rattle.std.specs.Ordering.{is_lt, ordering_reverse}
use Rattle.std.specs.Cmp.Lexicographic.{nat_list_cmp_total}
use Rattle.std.proofs.lemmas.Bool.{and_parts, true≢false, false≢true, cases_Bool, or_parts}
use Rattle.std.proofs.lemmas.List.Elements.{All-append, All-cons, All-contains_itself, All-filter, All-head, All-nil, All-tail}
use Rattle.sp_base.specs.Names.{by_name}
use Rattle.sp_base.specs.Paths.{is_path}
use Rattle.sp_base.specs.declared.value.Value.{Value}
use Rattle.sp_base.proofs.OrderingLemmas.{less_from_test}
use Rattle.sp_base.proofs.PropertyLemmas.{same_name}
use Rattle.resource_tree.specs.Content.{Content, kid, node_at}
use Rattle.resource_tree.specs.Seen.{Resource, res_at, res_of}
use Rattle.resource_tree.specs.declared.nodes.Node.{Node}
use Rattle.overlay_merge.specs.declared.layers.Layer.{Layer}
use Rattle.overlay_merge.specs.Roots.{is_merged_path}
use Rattle.overlay_merge.specs.Layers.{has_node, layers_of}
use Rattle.overlay_merge.specs.Hiding.{lists_name, layer_is_cut, resource_list, merged_from, shown_resource, shown_resources}
use Rattle.overlay_merge.specs.Properties.{is_steering, lower_properties_left, merged_props, put_all, with_layer, without_steering}
use Rattle.overlay_merge.specs.Kids.{all_kids, has_text, is_merged_there, layers_kids, kids_there, names_after_move, ordered_by, wish_at, with_kids_of}
use Rattle.overlay_merge.specs.Merged.{merge, merged_resource, unmerged_resource}
use Rattle.overlay_merge.specs.Cut.{IsOfLayer}
use Rattle.overlay_merge.proofs.DescentLemmas.{no_node_merged}
use Rattle.overlay_merge.proofs.LawLemmas.{kid-parts, kids-reorder}

-- ---- properties

module _ (P : List ℕ × Value → Type 0) where
  all_put : (k : List ℕ) (v : Value) (props : List (List ℕ × Value)) → P (k, v) → All P props → All P (put by_name k v props)
  all_put k v [] here all = All-cons P (k, v) [] here (All-nil P)
  all_put k v (e ∷ es) here all =
      elim (by_name k e.0) as (λ o. by_name k e.0 ≡ o → All P (by_order o ((k, v) ∷ e ∷ es) ((e.0, v) ∷ es) (e ∷ put by_name k v es))) [
        | Less ↦ λ is. All-cons P (k, v) (e ∷ es) here all
        | Equal ↦ λ is. All-cons P (e.0, v) es (subst (λ (n : List ℕ). P (n, v)) (same_name k e.0 is) here) (All-tail P e es all)
        | Greater ↦ λ is. All-cons P e (put by_name k v es) (All-head P e es all) (all_put k v es here (All-tail P e es all))
      ] refl

  all_put_all : (lower upper : List (List ℕ × Value)) → All P lower → All P upper → All P (put_all lower upper)
  unfolding put_all
  all_put_all lower [] low up = low
  all_put_all lower ((k, v) ∷ upper) low up =
      all_put_all (put by_name k v lower) upper (all_put k v lower (All-head P (k, v) upper up) low) (All-tail P (k, v) upper up)

  all_layers : (lower : List (List ℕ × Value)) (layers : List Resource) → All P lower → All (λ (layer : Resource). All P layer.props) layers → All P (fold with_layer lower layers)
  unfolding with_layer
  all_layers lower [] low up = low
  all_layers lower (layer ∷ layers) low up =
      all_layers (with_layer lower layer) layers
      (all_put_all (lower_properties_left layer.props lower) layer.props (All-filter (λ (e : List ℕ × Value). not (lists_name (find by_name (codes "sling:hideProperties") layer.props) e.0)) P lower low) (All-head (λ (l : Resource). All P l.props) layer layers up))
      (All-tail (λ (l : Resource). All P l.props) layer layers up)

  all_merged : (layers : List Resource) → All (λ (layer : Resource). All P layer.props) layers → All P (merged_props layers)
  unfolding merged_props
  all_merged layers each = All-filter (λ (e : List ℕ × Value). not (is_steering e.0)) P (fold with_layer [] layers) (all_layers [] layers (All-nil P) each)

-- ---- layers that aren't cut

more_lower : (tree : Content) (path : List (List ℕ)) (whole lower above : List Layer) (layer : Layer) → whole ≡ lower ++ layer ∷ above → whole ≡ (lower ++ layer ∷ []) ++ above
more_lower tree path whole lower above layer is = is ∙ sym (append_assoc lower (layer ∷ []) above)

one_of : (tree : Content) (path : List (List ℕ)) (lower above : List Layer) (layer : Layer) (cut : Bool) (o : Option Resource) → layers_of tree path ≡ lower ++ layer ∷ above
    → layer_is_cut tree layer above ≡ cut → res_at tree layer.path ≡ o → All (IsOfLayer tree path) (cond cut [] (resource_list o))
one_of tree path lower above layer true o whole cut there = All-nil (IsOfLayer tree path)
one_of tree path lower above layer false None whole cut there = All-nil (IsOfLayer tree path)
one_of tree path lower above layer false (Some res) whole cut there =
    All-cons (IsOfLayer tree path) res [] (record { lower = lower; layer = layer; upper = above; layers = whole; not_cut = cut; there = there }) (All-nil (IsOfLayer tree path))

of_layers : (tree : Content) (path : List (List ℕ)) (lower layers : List Layer) → layers_of tree path ≡ lower ++ layers → All (IsOfLayer tree path) (shown_resources tree layers)
unfolding shown_resources
of_layers tree path lower [] whole = All-nil (IsOfLayer tree path)
of_layers tree path lower (layer ∷ above) whole =
    All-append (IsOfLayer tree path) (shown_resource tree layer above) (shown_resources tree above) (one_of tree path lower above layer (layer_is_cut tree layer above) (res_at tree layer.path) whole refl refl)
    (of_layers tree path (lower ++ layer ∷ []) above (more_lower tree path (layers_of tree path) lower above layer whole))

all_if : {X : Type 0} (P : X → Type 0) (valid : Bool) (xs : List X) → All P xs → All P (cond valid xs [])
all_if P true xs all = all
all_if P false xs all = All-nil P

pub all_of_layers : (tree : Content) (path : List (List ℕ)) → All (IsOfLayer tree path) (merged_from tree path)
unfolding merged_from
all_of_layers tree path = all_if (IsOfLayer tree path) (is_path path) (shown_resources tree (layers_of tree path)) (of_layers tree path [] (layers_of tree path) refl)

-- ---- what is merged

pub merged_is : (tree : Content) (path : List (List ℕ)) → is_merged_path path ≡ true → merged_resource tree path ≡ merge tree path (merged_from tree path)
unfolding merged_resource
merged_is tree path is = ap (λ t. cond t (merge tree path (merged_from tree path)) (unmerged_resource tree path)) is

record Made (tree : Content) (path : List (List ℕ)) (layers : List Resource) (res : Resource) : Type 0 where
  props : res.props ≡ merged_props layers
  kids : res.kids ≡ layers_kids tree path layers

made : (tree : Content) (path : List (List ℕ)) (layers : List Resource) (res : Resource) → merge tree path layers ≡ Some res → Made tree path layers res
made tree path [] res e = absurd (cc)
made tree path (lowest ∷ more) res e = record { props = sym (ap (λ o. (unwrap_or o res).props) e); kids = sym (ap (λ o. (unwrap_or o res).kids) e) }

-- a property of some layer that isn't cut
abbrev pub IsOfSome : Content → List (List ℕ) → List ℕ × Value → Type 0
IsOfSome tree path property = (layer : Resource) × IsOfLayer tree path layer × Contains layer.props property

abbrev pub IsKidOfSome : Content → List (List ℕ) → List ℕ → Type 0
IsKidOfSome tree path name = (layer : Resource) × IsOfLayer tree path layer × (has_text layer.kids name ≡ true)

pub seen_property : (tree : Content) (path : List (List ℕ)) (res : Resource) → is_merged_path path ≡ true → merged_resource tree path ≡ Some res → All (IsOfSome tree path) res.props
seen_property tree path res is e =
    let layers = merged_from tree path in
    let made_is = made tree path layers res (sym (merged_is tree path is) ∙ e) in
    subst (λ (props : List (List ℕ × Value)). All (IsOfSome tree path) props) (sym made_is.props)
    (all_merged (IsOfSome tree path) layers (λ k d less.
    λ i p inner. (get_or layers k d, all_of_layers tree path k d less, All-contains_itself (get_or layers k d).props i p inner)))

some_layer : (tree : Content) (path : List (List ℕ)) (layers : List Resource) (name : List ℕ) → All (IsOfLayer tree path) layers
    → list_any (λ (layer : Resource). has_text layer.kids name) layers ≡ true → IsKidOfSome tree path name
some_layer tree path [] name all some = absurd (false≢true some)
some_layer tree path (layer ∷ layers) name all some =
    ⊎_elim (λ (here : has_text layer.kids name ≡ true). (layer, All-head (IsOfLayer tree path) layer layers all, here))
    (λ (none : has_text layer.kids name ≡ false).
    some_layer tree path layers name (All-tail (IsOfLayer tree path) layer layers all) (sym (ap (λ t. t || list_any (λ (l : Resource). has_text l.kids name) layers) none) ∙ some))
    (cases_Bool (has_text layer.kids name))

pub seen_kid : (tree : Content) (path : List (List ℕ)) (res : Resource) (name : List ℕ) → is_merged_path path ≡ true → merged_resource tree path ≡ Some res → has_text res.kids name ≡ true
    → IsKidOfSome tree path name
seen_kid tree path res name is e has =
    let layers = merged_from tree path in
    let made_is = made tree path layers res (sym (merged_is tree path is) ∙ e) in
    some_layer tree path layers name (all_of_layers tree path) (kid-parts tree path layers name (ap (λ ks. has_text ks name) (sym made_is.kids) ∙ has)).1

-- ---- one layer alone

no_res : (cut : Bool) (o : Option Resource) → o ≡ None → cond cut [] (resource_list o) ≡ []
no_res true o none = refl
no_res false o none = ap resource_list none

ap_none : (path : List (List ℕ)) (o : Option Node) → is_some o ≡ false → option_map (res_of path) o ≡ None
ap_none path None e = refl
ap_none path (Some node) e = absurd (true≢false e)

-- ---- the properties of one layer

greater : (a b : List ℕ) → is_lt (by_name b a) ≡ true → by_name a b ≡ Greater
greater a b less = nat_list_cmp_total.antisymm a b ∙ ap ordering_reverse (less_from_test (by_name b a) less)

-- an entry after all others is put at their end
put_last : (k : List ℕ) (v : Value) (props : List (List ℕ × Value)) → All (λ (e : List ℕ × Value). by_name k e.0 ≡ Greater) props → put by_name k v props ≡ props ++ (k, v) ∷ []
put_last k v [] after = refl
put_last k v (e ∷ es) after =
    ap (λ o. by_order o ((k, v) ∷ e ∷ es) ((e.0, v) ∷ es) (e ∷ put by_name k v es)) (All-head (λ (x : List ℕ × Value). by_name k x.0 ≡ Greater) e es after)
    ∙ ap (λ rest. e ∷ rest) (put_last k v es (All-tail (λ (x : List ℕ × Value). by_name k x.0 ≡ Greater) e es after))

below_in : (x : List ℕ) (props more : List (List ℕ × Value)) (k : List ℕ) (v : Value) → below_all by_name x (props ++ (k, v) ∷ more) ≡ true → is_lt (by_name x k) ≡ true
below_in x [] more k v e = (and_parts (is_lt (by_name x k)) (below_all by_name x more) e).0
below_in x (p ∷ props) more k v e = below_in x props more k v (and_parts (is_lt (by_name x p.0)) (below_all by_name x (props ++ (k, v) ∷ more)) e).1

sorted_after : (props more : List (List ℕ × Value)) (k : List ℕ) (v : Value) → is_sorted by_name (props ++ (k, v) ∷ more) ≡ true → All (λ (e : List ℕ × Value). by_name k e.0 ≡ Greater) props
sorted_after [] more k v sorted = All-nil (λ (e : List ℕ × Value). by_name k e.0 ≡ Greater)
sorted_after (p ∷ props) more k v sorted =
    let both = and_parts (below_all by_name p.0 (props ++ (k, v) ∷ more)) (is_sorted by_name (props ++ (k, v) ∷ more)) sorted in
    All-cons (λ (e : List ℕ × Value). by_name k e.0 ≡ Greater) p props (greater k p.0 (below_in p.0 props more k v both.0)) (sorted_after props more k v both.1)

pub put_sorted : (props more : List (List ℕ × Value)) → is_sorted by_name (props ++ more) ≡ true → put_all props more ≡ props ++ more
unfolding put_all
put_sorted props [] sorted = sym (append-nil props)
put_sorted props ((k, v) ∷ more) sorted =
    let whole : (props ++ (k, v) ∷ []) ++ more ≡ props ++ (k, v) ∷ more = append_assoc props ((k, v) ∷ []) more in
    ap (λ p. put_all p more) (put_last k v props (sorted_after props more k v sorted)) ∙ put_sorted (props ++ (k, v) ∷ []) more (ap (is_sorted by_name) whole ∙ sorted) ∙ whole

-- the properties of one layer are its own, but for the four names
one_props : (res : Resource) → is_sorted by_name res.props ≡ true → merged_props (res ∷ []) ≡ without_steering res.props
unfolding merged_props with_layer
one_props res sorted = ap without_steering (put_sorted [] res.props sorted)

none_of : (tree : Content) (layers rest : List Layer) → has_node tree layers ≡ false → shown_resources tree (layers ++ rest) ≡ shown_resources tree rest
unfolding shown_resources
none_of tree [] rest none = refl
none_of tree (layer ∷ layers) rest none =
    let both = or_parts (is_some (node_at tree layer.path)) (has_node tree layers) none in
    ap (λ l. l ++ shown_resources tree (layers ++ rest)) (no_res (layer_is_cut tree layer (layers ++ rest)) (option_map (res_of layer.path) (node_at tree layer.path)) (ap_none layer.path (node_at tree layer.path) both.0))
    ∙ none_of tree layers rest both.1

pub only_layer : (tree : Content) (path : List (List ℕ)) (lower upper : List Layer) (layer : Layer) (res : Resource) → is_path path ≡ true → is_merged_path path ≡ true
    → layers_of tree path ≡ lower ++ layer ∷ upper → has_node tree lower ≡ false → has_node tree upper ≡ false → layer_is_cut tree layer upper ≡ false → res_at tree layer.path ≡ Some res → is_sorted by_name res.props ≡ true
    → merged_resource tree path ≡ Some (record { path = path; props = without_steering res.props; kids = layers_kids tree path (res ∷ []) })
unfolding merged_from shown_resources
only_layer tree path lower upper layer res valid is layers low up not_cut there sorted =
    let from : merged_from tree path ≡ res ∷ [] =
    ap (λ t. cond t (shown_resources tree (layers_of tree path)) []) valid ∙ ap (shown_resources tree) layers ∙ none_of tree lower (layer ∷ upper) low
    ∙ ap (λ t. cond t [] (resource_list (res_at tree layer.path)) ++ shown_resources tree upper) not_cut ∙ ap (λ o. resource_list o ++ shown_resources tree upper) there
    ∙ ap (λ l. res ∷ l) (no_node_merged tree upper up) in
    merged_is tree path is ∙ ap (merge tree path) from
    ∙ ap (λ props. Some (record { path = path; props = props; kids = layers_kids tree path (res ∷ []) })) (one_props res sorted)

each_kept : {X : Type 0} (p : X → Bool) (xs : List X) → All (λ x. p x ≡ true) xs → filter p xs ≡ xs
each_kept p [] each = refl
each_kept p (x ∷ xs) each = ap (λ t. cond t (x ∷ filter p xs) (filter p xs)) (All-head (λ y. p y ≡ true) x xs each) ∙ ap (λ rest. x ∷ rest) (each_kept p xs (All-tail (λ y. p y ≡ true) x xs each))

one_kids : (res : Resource) → all_kids (res ∷ []) ≡ res.kids
unfolding all_kids with_kids_of
one_kids res = each_kept (λ name. not (has_text [] name)) res.kids (λ k d less. refl)

pub only_kids : (tree : Content) (path : List (List ℕ)) (res : Resource) → IsPermutation (kids_there tree path res.kids) (layers_kids tree path (res ∷ []))
only_kids tree path res = subst (λ names. IsPermutation (kids_there tree path names) (layers_kids tree path (res ∷ []))) (one_kids res) (kids-reorder tree path (res ∷ []))

unmoved_by : (tree : Content) (path names kids : List (List ℕ)) → All (λ name. wish_at tree (kid path name) ≡ None) kids
    → fold (λ so_far name. names_after_move name (wish_at tree (kid path name)) so_far) names kids ≡ names
unfolding names_after_move
unmoved_by tree path names [] none = refl
unmoved_by tree path names (name ∷ kids) none =
    ap (λ wish. fold (λ so_far n. names_after_move n (wish_at tree (kid path n)) so_far) (names_after_move name wish names) kids) (All-head (λ n. wish_at tree (kid path n) ≡ None) name kids none)
    ∙ unmoved_by tree path names kids (All-tail (λ n. wish_at tree (kid path n) ≡ None) name kids none)

pub same_kids : (tree : Content) (path : List (List ℕ)) (res : Resource) → All (λ name. is_merged_there tree (kid path name) ≡ true) res.kids
    → All (λ name. wish_at tree (kid res.path name) ≡ None) res.kids → layers_kids tree path (res ∷ []) ≡ res.kids
unfolding layers_kids kids_there ordered_by
same_kids tree path res there none =
    ap (λ names. fold (ordered_by tree) (filter (λ name. is_merged_there tree (kid path name)) names) (res ∷ [])) (one_kids res)
    ∙ ap (λ names. fold (ordered_by tree) names (res ∷ [])) (each_kept (λ name. is_merged_there tree (kid path name)) res.kids there)
    ∙ unmoved_by tree res.path res.kids res.kids none
