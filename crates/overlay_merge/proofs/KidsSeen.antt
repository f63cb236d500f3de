-- Each kid of what is seen has a resource, and the node that is seen alone keeps its kids.
use Rattle.std.proofs.Common.{◌≡◌, ◌<◌, ◌≤◌, ◌++◌, ℕ, Bool, true, false, not, cond, List, [], ◌∷◌, Option, Some, None, length, refl, sym, ◌∙◌, ap, arith, ⊎_elim}
use Rattle.std.specs.Prelude.{All, codes, filter, is_some, nat_eq, option_map}
use Rattle.std.specs.Cmp.Lexicographic.{pointwise, same_text}
use Rattle.std.specs.FinMap.Entries.{is_sorted}
use Rattle.std.proofs.lemmas.Bool.{and_parts, false≢true, cases_Bool, cases_lt, or_cases}
use Rattle.std.proofs.lemmas.List.{take-append-le}
use Rattle.std.proofs.lemmas.Map.Views.{any-filter_same}
use Rattle.std.proofs.Math.Seq.{take-length}
use Rattle.sp_base.specs.Names.{by_name}
use Rattle.sp_base.specs.Paths.{is_path, is_under}
use Rattle.resource_tree.specs.Content.{Content, IsTree, kid, node_at}
use Rattle.resource_tree.specs.Seen.{Resource, res_at, res_of}
use Rattle.resource_tree.specs.declared.nodes.Node.{Node}
use Rattle.overlay_merge.specs.declared.layers.Layer.{Layer}
use Rattle.overlay_merge.specs.Roots.{is_merged_path, is_name_of_root, is_overlay, is_override, is_parent_of_roots}
use Rattle.overlay_merge.specs.Layers.{has_node, layers_of}
use Rattle.overlay_merge.specs.Hiding.{merged_from}
use Rattle.overlay_merge.specs.Cut.{HasRoomFor, NoLayerIsCut}
use Rattle.overlay_merge.specs.Kids.{has_text, is_merged_there, wish_at}
use Rattle.overlay_merge.specs.Merged.{has_resource, kids_in, merge, merged_resource, unmerged_resource, without_roots}
use Rattle.overlay_merge.specs.Properties.{without_steering}
use Rattle.overlay_merge.proofs.LawLemmas.{kid-parts}
use Rattle.overlay_merge.proofs.MergedLemmas.{has_merged, has_unmerged}
use Rattle.overlay_merge.proofs.ReachLemmas.{merged_take, short_plain}
use Rattle.overlay_merge.proofs.SeenLemmas.{merged_is, only_layer, same_kids}
use Rattle.overlay_merge.proofs.ThereLemmas.{kids_left}

-- ---- kids of merged paths

kid_merged : (path : List (List ℕ)) (name : List ℕ) → 2 ≤ length path → is_merged_path (kid path name) ≡ is_merged_path path
kid_merged path name deep =
    sym (merged_take (kid path name) (length path) deep) ∙ ap is_merged_path (take-append-le (length path) path (name ∷ []) (omega arith) ∙ take-length path)

merged_deep : (path : List (List ℕ)) → is_merged_path path ≡ true → 2 ≤ length path
merged_deep path is =
    ⊎_elim (λ (large : 1 < length path). omega (arith, large)) (λ (small : length path ≤ 1). absurd (false≢true (sym (short_plain path small) ∙ is))) (cases_lt 1 (length path))

has_merge : (tree : Content) (path : List (List ℕ)) (layers : List Resource) (name : List ℕ) → has_text (kids_in (merge tree path layers)) name ≡ true → is_merged_there tree (kid path name) ≡ true
has_merge tree path [] name has = absurd (false≢true has)
has_merge tree path (lowest ∷ more) name has = (kid-parts tree path (lowest ∷ more) name has).0

merged_kid : (tree : Content) (path : List (List ℕ)) (name : List ℕ) → is_merged_path path ≡ true → has_text (kids_in (merged_resource tree path)) name ≡ true → has_resource tree (kid path name) ≡ true
merged_kid tree path name is has =
    has_merged tree (kid path name) (kid_merged path name (merged_deep path is) ∙ is)
    ∙ has_merge tree path (merged_from tree path) name (ap (λ o. has_text (kids_in o) name) (sym (merged_is tree path is)) ∙ has)

-- ---- kids elsewhere

named_root : (name root : List ℕ) → root ≡ name → is_name_of_root root ≡ true → is_name_of_root name ≡ true
named_root name root same is = ap is_name_of_root (sym same) ∙ is

-- a kid that is one of the two roots is a kid of their parent
is_root_kid : (a name root : List ℕ) → is_name_of_root root ≡ true → is_under (a ∷ name ∷ []) (codes "mnt" ∷ root ∷ []) ≡ true → (is_parent_of_roots (a ∷ []) ≡ true) × (is_name_of_root name ≡ true)
is_root_kid a name root named under =
    let parts = and_parts (pointwise nat_eq (codes "mnt") a) _ under in
    let second = and_parts (pointwise nat_eq root name) _ parts.1 in
    let same : codes "mnt" ≡ a = same_text (codes "mnt") a (sym parts.0) in
    (ap (λ (s : List ℕ). is_parent_of_roots (s ∷ [])) (sym same), named_root name root (same_text root name (sym second.0)) named)

root_kid : (path : List (List ℕ)) (name : List ℕ) → is_merged_path path ≡ false → is_merged_path (kid path name) ≡ true → (is_parent_of_roots path ≡ true) × (is_name_of_root name ≡ true)
root_kid [] name plain is = absurd (false≢true (sym (short_plain (name ∷ []) (omega arith)) ∙ is))
root_kid (a ∷ []) name plain is =
    ⊎_elim (λ (over : is_overlay (a ∷ name ∷ []) ≡ true). is_root_kid a name (codes "overlay") refl over)
    (λ (over : is_override (a ∷ name ∷ []) ≡ true). is_root_kid a name (codes "override") refl over) (or_cases (is_overlay (a ∷ name ∷ [])) (is_override (a ∷ name ∷ [])) is)
root_kid (a ∷ b ∷ path) name plain is = absurd (false≢true (sym plain ∙ sym (kid_merged (a ∷ b ∷ path) name (omega arith)) ∙ is))

-- the kids of a node, without the two roots where their parent is
abbrev kept_kids : Bool → List (List ℕ) → List (List ℕ)
kept_kids parent kids = cond parent (filter (λ name. not (is_name_of_root name)) kids) kids

kept_has : (parent : Bool) (kids : List (List ℕ)) (name : List ℕ) → has_text (kept_kids parent kids) name ≡ true → (has_text kids name ≡ true) × ((parent ≡ true) → (is_name_of_root name ≡ true) → ⊥)
kept_has true kids name has =
    let both = and_parts (not (is_name_of_root name)) (has_text kids name)
    (sym (any-filter_same (pointwise nat_eq name) (λ n. not (is_name_of_root n)) (not (is_name_of_root name)) (λ n e. ap (λ s. not (is_name_of_root s)) (sym (same_text name n (sym e)))) kids) ∙ has) in
    (both.1, λ parent root. false≢true (ap not (sym root) ∙ both.0))
kept_has false kids name has = (has, λ parent root. false≢true parent)

node_kids : (tree : Content) (path : List (List ℕ)) (name : List ℕ) (parent : Bool) (o : Option Node) → IsTree (node_at tree) → node_at tree path ≡ o
    → has_text (kids_in (cond parent (option_map without_roots (option_map (res_of path) o)) (option_map (res_of path) o))) name ≡ true
    → (is_some (node_at tree (kid path name)) ≡ true) × ((parent ≡ true) → (is_name_of_root name ≡ true) → ⊥)
node_kids tree path name true None good at has = absurd (false≢true has)
node_kids tree path name false None good at has = absurd (false≢true has)
node_kids tree path name true (Some node) good at has =
    let kept = kept_has true node.kids name has in
    (sym ((good.nodes path node at).kids name) ∙ kept.0, kept.1)
node_kids tree path name false (Some node) good at has =
    let kept = kept_has false node.kids name has in
    (sym ((good.nodes path node at).kids name) ∙ kept.0, kept.1)

plain_kid : (tree : Content) (path : List (List ℕ)) (name : List ℕ) → IsTree (node_at tree) → is_merged_path path ≡ false → has_text (kids_in (merged_resource tree path)) name ≡ true
    → has_resource tree (kid path name) ≡ true
unfolding merged_resource
plain_kid tree path name good plain has =
    let found = node_kids tree path name (is_parent_of_roots path) (node_at tree path) good refl
    (sym (ap (λ t. has_text (kids_in (cond t (merge tree path (merged_from tree path)) (unmerged_resource tree path))) name) plain) ∙ has) in
    ⊎_elim (λ (root : is_merged_path (kid path name) ≡ true). let kid_is = root_kid path name plain root in absurd (found.1 kid_is.0 kid_is.1))
    (λ (other : is_merged_path (kid path name) ≡ false). has_unmerged tree (kid path name) other ∙ found.0) (cases_Bool (is_merged_path (kid path name)))

-- at each kid of what is seen something is seen
pub kid_seen : (tree : Content) (path : List (List ℕ)) (name : List ℕ) → IsTree (node_at tree) → has_text (kids_in (merged_resource tree path)) name ≡ true → has_resource tree (kid path name) ≡ true
kid_seen tree path name good has =
    ⊎_elim (λ (is : is_merged_path path ≡ true). merged_kid tree path name is has) (λ (plain : is_merged_path path ≡ false). plain_kid tree path name good plain has) (cases_Bool (is_merged_path path))

-- ---- one layer alone

pub only_node : (tree : Content) (path : List (List ℕ)) (lower upper : List Layer) (layer : Layer) (res : Resource) → IsTree (node_at tree) → is_path path ≡ true → is_merged_path path ≡ true
    → layers_of tree path ≡ lower ++ layer ∷ upper → has_node tree lower ≡ false → has_node tree upper ≡ false → res_at tree layer.path ≡ Some res → is_sorted by_name res.props ≡ true
    → NoLayerIsCut tree path → All (λ (name : List ℕ). NoLayerIsCut tree (kid path name)) res.kids → All (λ (name : List ℕ). HasRoomFor tree path name) res.kids
    → All (λ (name : List ℕ). wish_at tree (kid res.path name) ≡ None) res.kids
    → merged_resource tree path ≡ Some (record { path = path; props = without_steering res.props; kids = res.kids })
only_node tree path lower upper layer res good valid is layers low up there sorted left kids_left_too room none =
    only_layer tree path lower upper layer res valid is layers low up (left lower upper layer layers) there sorted
    ∙ ap (λ kids. Some (record { path = path; props = without_steering res.props; kids = kids }))
    (same_kids tree path res (kids_left tree path lower upper layer res good layers there kids_left_too room) none)
