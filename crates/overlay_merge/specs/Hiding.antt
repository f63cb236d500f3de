-- Which layers hide which (Apache Sling, "Resource Merger": sling:hideResource, sling:hideChildren).
use Rattle.std.specs.Prelude.{◌+◌, ◌||◌, ◌&&◌, ℕ, zero, suc, Bool, false, nat_eq, nat_le, min, if◌then◌else◌, List, [], ◌∷◌, ◌++◌, Option, Some, None, codes, length, slice_index_or, take, ◌≡◌}
use Rattle.std.specs.List.{list_any}
use Rattle.std.specs.Option.{option_map_or}
use Rattle.std.specs.Cmp.Lexicographic.{pointwise}
use Rattle.std.specs.FinMap.Entries.{find}
use Rattle.sp_base.specs.Texts.{Segments, Properties}
use Rattle.sp_base.specs.Names.{by_name}
use Rattle.sp_base.specs.Paths.{is_path}
use Rattle.sp_base.specs.Properties.{value_texts}
use Rattle.sp_base.specs.declared.value.Value.{Value}
use Rattle.sp_base.specs.declared.value.Value.TheVariants.{Truth}
use Rattle.resource_tree.specs.Content.{Content, node_at}
use Rattle.resource_tree.specs.Seen.{Resource, res_at}
use Rattle.overlay_merge.specs.declared.layers.Layer.{Layer}
use Rattle.overlay_merge.specs.Layers.{layers_of}

-- ---- what a property says

-- the one truth value true
abbrev pub is_value_true : Option Value → Bool
is_value_true (Some (Truth b)) = b
is_value_true _ = false

-- a text stands for a name where it is that name, and `*` stands for each name
abbrev pub text_stands_for : List ℕ → List ℕ → Bool
text_stands_for name text = pointwise nat_eq text (codes "*") || pointwise nat_eq text name

-- a value lists a name
abbrev pub lists_name : Option Value → List ℕ → Bool
lists_name value name = list_any (text_stands_for name) (value_texts value)

-- whether properties hide their resource
abbrev pub hides_resource : Properties → Bool
hides_resource props = is_value_true (find by_name (codes "sling:hideResource") props)

-- whether properties hide a kid of their resource
abbrev pub hides_kid : List ℕ → Properties → Bool
hides_kid name props = lists_name (find by_name (codes "sling:hideChildren") props) name

-- whether the node at a path hides its resource
abbrev pub hides_resource_at : Content → Segments → Bool
hides_resource_at tree path = option_map_or (λ node. hides_resource node.props) (node_at tree path) false

-- whether the node at a path hides a kid
abbrev pub hides_kid_at : Content → Segments → List ℕ → Bool
hides_kid_at tree path name = option_map_or (λ node. hides_kid name node.props) (node_at tree path) false

-- ---- along a path

-- some number below n has it
abbrev pub some_below : ℕ → (ℕ → Bool) → Bool
some_below zero p = false
some_below (suc n) p = p n || some_below n p

-- a path's first k segments are at most n steps above it
abbrev pub is_within : ℕ → Segments → ℕ → Bool
is_within n path k = nat_le (length path) (k + n)

-- the node at the path or at most n steps above it hides its resource
abbrev pub hides_resource_within : Content → ℕ → Segments → Bool
hides_resource_within tree n path = some_below (length path + 1) (λ k. is_within n path k && hides_resource_at tree (take k path))

-- a node above the path, at most n steps, hides the kid through which the path goes on
abbrev pub hides_kid_within : Content → ℕ → Segments → Bool
hides_kid_within tree n path = some_below (length path) (λ k. is_within n path k && hides_kid_at tree (take k path) (slice_index_or path k []))

-- ---- between layers

-- the layers above one, each with how many last segments it has in common with that one: the least of the steps between them
abbrev pub in_common : ℕ → List Layer → List (ℕ × Segments)
in_common n [] = []
in_common n (layer ∷ above) = (n, layer.path) ∷ in_common (min n layer.common) above

-- a layer above has a node that hides its resource or the kid on the way, as far up as its last segments in common go
abbrev pub is_hidden_by : Content → ℕ × Segments → Bool
is_hidden_by tree upper = hides_resource_within tree upper.0 upper.1 || hides_kid_within tree upper.0 upper.1

-- A layer is cut, below these layers: in itself or in one of these a node hides its resource, or in one of these a node hides the kid on the
-- way. Such a node counts as far up as the two have their last segments in common.
unfoldable pub layer_is_cut : Content → Layer → List Layer → Bool
layer_is_cut tree layer above = hides_resource_within tree layer.own layer.path || list_any (is_hidden_by tree) (in_common layer.common above)

-- a resource as a list of at most one
abbrev pub resource_list : Option Resource → List Resource
resource_list None = []
resource_list (Some res) = res ∷ []

-- what a layer shows, below these layers: its resource, where there is one and the layer isn't cut
abbrev pub shown_resource : Content → Layer → List Layer → List Resource
shown_resource tree layer above = if layer_is_cut tree layer above then [] else resource_list (res_at tree layer.path)

-- what is at the layers that aren't cut, the lowest first
unfoldable pub shown_resources : Content → List Layer → List Resource
shown_resources tree [] = []
shown_resources tree (layer ∷ above) = shown_resource tree layer above ++ shown_resources tree above

-- the resources that are merged at a path
unfoldable pub merged_from : Content → Segments → List Resource
merged_from tree path = if is_path path then shown_resources tree (layers_of tree path) else []

-- the layer adds nothing to what is merged
abbrev pub IsLeftOut : Content → Layer → List Layer → Type 0
IsLeftOut tree layer above = shown_resources tree (layer ∷ above) ≡ shown_resources tree above
