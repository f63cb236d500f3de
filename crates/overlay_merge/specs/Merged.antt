-- What is seen at a path, with resources merged (Apache Sling, "Resource Merger").
use Rattle.std.specs.Prelude.{ℕ, Bool, not, if◌then◌else◌, is_some, List, [], ◌∷◌, Option, Some, None, filter, option_map, false, true, ◌++◌, ◌≡◌, All}
use Rattle.std.specs.FinMap.Entries.{is_sorted}
use Rattle.std.specs.List.{Contains}
use Rattle.sp_base.specs.Texts.{Segments, Text}
use Rattle.sp_base.specs.Names.{by_name}
use Rattle.sp_base.specs.Paths.{is_path}
use Rattle.sp_base.specs.declared.value.Value.{Value}
use Rattle.resource_tree.specs.Content.{Content, IsGood, kid}
use Rattle.resource_tree.specs.Seen.{Resource, res_at}
use Rattle.overlay_merge.specs.Roots.{is_merged_path, is_name_of_root, is_parent_of_roots}
use Rattle.overlay_merge.specs.Hiding.{merged_from, layer_is_cut}
use Rattle.overlay_merge.specs.Properties.{merged_props, without_steering}
use Rattle.overlay_merge.specs.Kids.{has_text, layers_kids, wish_at}
use Rattle.overlay_merge.specs.declared.layers.Layer.{Layer}
use Rattle.overlay_merge.specs.Layers.{has_node, layers_of}
use Rattle.overlay_merge.specs.Cut.{HasRoomFor, NoLayerIsCut, IsOfLayer}

-- layers merged as the resource at a path; without a layer there is none
abbrev pub merge : Content → Segments → List Resource → Option Resource
merge tree path [] = None
merge tree path (lowest ∷ more) = Some (record { path = path; props = merged_props (lowest ∷ more); kids = layers_kids tree path (lowest ∷ more) })

-- the two roots aren't kids
abbrev pub without_roots : Resource → Resource
without_roots res = record res { kids = filter (λ name. not (is_name_of_root name)) res.kids }

-- elsewhere the node is seen as it is, but that the parent of the two roots doesn't list them
abbrev pub unmerged_resource : Content → Segments → Option Resource
unmerged_resource tree path = if is_parent_of_roots path then option_map without_roots (res_at tree path) else res_at tree path

-- what is seen at a path
unfoldable pub merged_resource : Content → Segments → Option Resource
merged_resource tree path = if is_merged_path path then merge tree path (merged_from tree path) else unmerged_resource tree path

-- the kids of a resource, if there is one
abbrev pub kids_in : Option Resource → List Text
kids_in None = []
kids_in (Some res) = res.kids

-- whether a resource is seen at a path
unfoldable pub has_resource : Content → Segments → Bool
has_resource tree path = is_some (merged_resource tree path)

-- the same resource without its kids
abbrev pub without_kids : Resource → Resource
without_kids res = record res { kids = [] }

-- what is seen at a path, without its kids where resources are merged
unfoldable pub merged_alone : Content → Segments → Option Resource
merged_alone tree path = if is_merged_path path then option_map without_kids (merged_resource tree path) else merged_resource tree path

-- of names the one that is asked for
abbrev pub names_like : List ℕ → List Text → List Text
names_like name names = if has_text names name then name ∷ [] else []

-- the same resource without its kids but for that of one name
abbrev pub with_only_kid : List ℕ → Resource → Resource
with_only_kid name res = record res { kids = names_like name res.kids }

-- what is seen at a path, where resources are merged without its kids but for that of one name
unfoldable pub merged_with_kid : Content → Segments → List ℕ → Option Resource
merged_with_kid tree path name = if is_merged_path path then option_map (with_only_kid name) (merged_resource tree path) else merged_resource tree path

-- where one layer alone is a node and it isn't cut, the resource is that node without the four names that steer the merging
abbrev pub OnlyLayersAreShown : Type 0
OnlyLayersAreShown = (tree : Content) (path : Segments) (lower upper : List Layer) (layer : Layer) (res : Resource) → is_path path ≡ true → is_merged_path path ≡ true
    → layers_of tree path ≡ lower ++ layer ∷ upper → has_node tree lower ≡ false → has_node tree upper ≡ false → layer_is_cut tree layer upper ≡ false
    → res_at tree layer.path ≡ Some res → is_sorted by_name res.props ≡ true
    → merged_resource tree path ≡ Some (record { path = path; props = without_steering res.props; kids = layers_kids tree path (res ∷ []) })

-- its kids are the node's as they stand there, if no layer of a kid is cut either, their paths aren't too deep and none wishes to stand elsewhere
abbrev pub OnlyLayersKeepTheirKids : Type 0
OnlyLayersKeepTheirKids = (tree : Content) (path : Segments) (lower upper : List Layer) (layer : Layer) (res : Resource) → IsGood tree → is_path path ≡ true
    → is_merged_path path ≡ true → layers_of tree path ≡ lower ++ layer ∷ upper → has_node tree lower ≡ false → has_node tree upper ≡ false
    → res_at tree layer.path ≡ Some res → is_sorted by_name res.props ≡ true → NoLayerIsCut tree path
    → All (λ (name : Text). NoLayerIsCut tree (kid path name)) res.kids → All (λ (name : Text). HasRoomFor tree path name) res.kids
    → All (λ (name : Text). wish_at tree (kid res.path name) ≡ None) res.kids
    → merged_resource tree path ≡ Some (record { path = path; props = without_steering res.props; kids = res.kids })

-- each property that is seen is one of a layer that isn't cut
abbrev pub PropertiesAreOfLayers : Type 0
PropertiesAreOfLayers = (tree : Content) (path : Segments) (res : Resource) → is_merged_path path ≡ true → merged_resource tree path ≡ Some res
    → All (λ (property : List ℕ × Value). (layer : Resource) × IsOfLayer tree path layer × Contains layer.props property) res.props

-- each kid that is seen is one of such a layer
abbrev pub KidsAreOfLayers : Type 0
KidsAreOfLayers = (tree : Content) (path : Segments) (res : Resource) (name : Text) → is_merged_path path ≡ true → merged_resource tree path ≡ Some res
    → has_text res.kids name ≡ true → (layer : Resource) × IsOfLayer tree path layer × (has_text layer.kids name ≡ true)

-- what is merged at the path lists this kid
abbrev pub ListsKid : Content → Segments → Text → Type 0
ListsKid tree path name = has_text (kids_in (merged_resource tree path)) name ≡ true
