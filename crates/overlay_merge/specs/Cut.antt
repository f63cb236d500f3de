-- Which layers are cut, as a statement on single nodes, and which resources are merged (Apache Sling, "Resource Merger":
-- sling:hideResource, sling:hideChildren).
use Rattle.std.specs.Prelude.{◌≡◌, ◌⊎◌, ◌+◌, ◌-◌, ◌<◌, ◌≤◌, ◌++◌, ℕ, All, Any, true, false, List, ◌∷◌, Some, length, take}
use Rattle.sp_base.specs.Texts.{Segments}
use Rattle.sp_base.specs.Paths.{is_path}
use Rattle.resource_tree.specs.Content.{Content, kid, name_of}
use Rattle.resource_tree.specs.Seen.{Resource, res_at}
use Rattle.overlay_merge.specs.declared.layers.Layer.{Layer}
use Rattle.overlay_merge.specs.Layers.{layers_of}
use Rattle.overlay_merge.specs.Hiding.{hides_kid_at, hides_resource_at, in_common, layer_is_cut}

-- the path n steps above another
abbrev pub steps_above : ℕ → Segments → Segments
steps_above steps path = take (length path - steps) path

-- the node at a path, or one at most n steps above it, hides its resource
pub record HidesResource (tree : Content) (most : ℕ) (path : Segments) : Type 0 where
  pub steps : ℕ
  pub near : steps ≤ most
  pub hides : hides_resource_at tree (steps_above steps path) ≡ true

-- a node above a path, at most n steps, hides the kid through which the path goes on: the kid is one step nearer
pub record HidesKid (tree : Content) (most : ℕ) (path : Segments) : Type 0 where
  pub steps : ℕ
  pub near : steps < most
  pub inside : steps < length path
  pub hides : hides_kid_at tree (steps_above (steps + 1) path) (name_of (steps_above steps path)) ≡ true

-- a layer is cut by a node of its own path that hides its resource, or by a node of the path of a layer above that hides its resource or a kid
abbrev pub LayerIsCut : Content → Layer → List Layer → Type 0
LayerIsCut tree layer above = HidesResource tree layer.own layer.path
    ⊎ Any (λ (upper : ℕ × Segments). HidesResource tree upper.0 upper.1 ⊎ HidesKid tree upper.0 upper.1) (in_common layer.common above)

-- a resource is the node at a layer of a path that isn't cut
pub record IsOfLayer (tree : Content) (path : Segments) (res : Resource) : Type 0 where
  pub lower : List Layer
  pub layer : Layer
  pub upper : List Layer
  pub layers : layers_of tree path ≡ lower ++ layer ∷ upper
  pub not_cut : layer_is_cut tree layer upper ≡ false
  pub there : res_at tree layer.path ≡ Some res

-- no layer of a path is cut
abbrev pub NoLayerIsCut : Content → Segments → Type 0
NoLayerIsCut tree path = (lower upper : List Layer) (layer : Layer) → layers_of tree path ≡ lower ++ layer ∷ upper → layer_is_cut tree layer upper ≡ false

-- no node hides its resource or a kid
pub record HidesNothing (tree : Content) : Type 0 where
  pub resources : (path : Segments) → hides_resource_at tree path ≡ false
  pub kids : (path : Segments) (name : List ℕ) → hides_kid_at tree path name ≡ false

-- a kid of this name is no deeper than a path may be, below the path and below each of its layers
pub record HasRoomFor (tree : Content) (path : Segments) (name : List ℕ) : Type 0 where
  pub below_path : is_path (kid path name) ≡ true
  pub below_layers : All (λ (layer : Layer). is_path (kid layer.path name) ≡ true) (layers_of tree path)
