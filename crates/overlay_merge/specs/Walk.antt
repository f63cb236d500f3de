-- What a walk down a path notes of the nodes on it that hide something. What is merged needs none of it: only private functions and proofs
-- cite this.
use Rattle.std.specs.Prelude.{◌+◌, ◌-◌, ◌||◌, ◌≡◌, ℕ, zero, suc, Bool, false, nat_lt, min, if◌then◌else◌, List, [], ◌∷◌, ◌++◌, Some, is_some, length, slice_index_or, take}
use Rattle.std.specs.List.{list_any}
use Rattle.std.specs.Prelude.{All}
use Rattle.sp_base.specs.Texts.{Segments}
use Rattle.resource_tree.specs.Content.{Content, kid, node_at}
use Rattle.resource_tree.specs.Seen.{Resource, res_at}
use Rattle.overlay_merge.specs.declared.layers.Layer.{Layer}
use Rattle.overlay_merge.specs.declared.hiding.HidingDepths.{HidingDepths}
use Rattle.overlay_merge.specs.declared.merged_resources.ScreenedLayer.{ScreenedLayer}
use Rattle.overlay_merge.specs.Hiding.{hides_kid_at, hides_resource_at, resource_list}

-- one more than the last number below n that has it, and 0 where none has
unfoldable pub last_below : ℕ → (ℕ → Bool) → ℕ
last_below zero p = 0
last_below (suc n) p = if p n then suc n else last_below n p

-- one more than the depth of the deepest of the first n nodes along a path that hides its resource, and 0 where none does
abbrev pub resource_depth : Content → Segments → ℕ → ℕ
resource_depth tree path n = last_below n (λ k. hides_resource_at tree (take k path))

-- one more than the depth of the deepest of the first n nodes along a path that hides the next one, and 0 where none does
abbrev pub kid_depth : Content → Segments → ℕ → ℕ
kid_depth tree path n = last_below n (λ k. hides_kid_at tree (take k path) (slice_index_or path k []))

-- both along the whole path
unfoldable pub hiding_depths : Content → Segments → HidingDepths
hiding_depths tree path = record { depth = length path; resource = resource_depth tree path (length path + 1); kid = kid_depth tree path (length path) }

-- a layer with the depths along its path
abbrev pub screened_layer : Content → Layer → ScreenedLayer
screened_layer tree layer = record { layer = layer; hiding = hiding_depths tree layer.path }

-- whether one of the first segments that were noted is at most n steps above the path
abbrev pub reaches : HidingDepths → ℕ → ℕ → Bool
reaches hiding n found = nat_lt (hiding.depth - n) found

-- a layer has a node at most n steps above its path that hides something
abbrev pub screens : ℕ → ScreenedLayer → Bool
screens n upper = reaches upper.hiding n upper.hiding.resource || reaches upper.hiding n upper.hiding.kid

-- one of the layers above hides, each within the least of the steps between
unfoldable pub some_screens : ℕ → List ScreenedLayer → Bool
some_screens n [] = false
some_screens n (upper ∷ above) = screens n upper || some_screens (min n upper.layer.common) above

-- the layer is hidden by a node of its own path, or by a layer above
unfoldable pub is_screened : ScreenedLayer → List ScreenedLayer → Bool
is_screened layer above = reaches layer.hiding layer.layer.own layer.hiding.resource || some_screens layer.layer.common above

-- the resource that a layer adds, unless it is hidden
abbrev pub unscreened_resource : Content → ScreenedLayer → List ScreenedLayer → List Resource
unscreened_resource tree layer above = if is_screened layer above then [] else resource_list (res_at tree layer.layer.path)

-- the resources that layers add
unfoldable pub unscreened_resources : Content → List ScreenedLayer → List Resource
unscreened_resources tree [] = []
unscreened_resources tree (layer ∷ above) = unscreened_resource tree layer above ++ unscreened_resources tree above

-- each is a node of the tree as it is
abbrev pub AreNodesOf : Content → List Resource → Type 0
AreNodesOf tree layers = All (λ (res : Resource). res_at tree res.path ≡ Some res) layers

-- whether a node is a kid of one of them
abbrev pub has_kid_node : Content → List ℕ → List Layer → Bool
has_kid_node tree name layers = list_any (λ layer. is_some (node_at tree (kid layer.path name))) layers
