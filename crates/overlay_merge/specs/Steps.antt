-- The layers of an override, step by step from the path itself down: which is the first, which follows each, and that nothing else does.
use Rattle.std.specs.Prelude.{◌≡◌, ◌+◌, ◌-◌, ◌<◌, ◌≤◌, ◌++◌, ℕ, nat_lt, if◌then◌else◌, List, Option, Some, None, drop, length, reverse, slice_get, take}
use Rattle.sp_base.specs.Texts.{Segments, Text}
use Rattle.sp_base.specs.Paths.{path_or_none}
use Rattle.resource_tree.specs.Content.{Content}
use Rattle.type_chain.specs.Chain.{super_at}
use Rattle.type_chain.specs.Types.{place_of}
use Rattle.overlay_merge.specs.declared.layers.Layer.{Layer}
use Rattle.overlay_merge.specs.Layers.{has_layer, layer_below, make_layer, most_layers, override_layer, override_layers}

-- the layer, if there is one whose path is none of theirs
abbrev pub unless_there : List Layer → Option Layer → Option Layer
unless_there layers None = None
unless_there layers (Some layer) = if has_layer layers layer.path then None else Some layer

-- The first is the path itself. Each is followed by the layer below it, and by nothing where there is none, where its path is that of one
-- before, or where the most layers are there.
pub record AreLayerSteps (tree : Content) (path : Segments) (layers : List Layer) : Type 0 where
  pub first : slice_get layers 0 ≡ Some (override_layer 0 path)
  pub next : (k : ℕ) (layer : Layer) → slice_get layers k ≡ Some layer
      → slice_get layers (k + 1) ≡ (if nat_lt (k + 1) most_layers then unless_there (take (k + 1) layers) (layer_below tree layer.path) else None)

-- layers that have the steps are those of the override, the lowest first
abbrev pub AreTheLayersIfSteps : Content → Segments → List Layer → Type 0
AreTheLayersIfSteps tree path layers = AreLayerSteps tree path layers → override_layers tree path ≡ reverse layers

-- The layer below a path: of the nodes on it the deepest that names a super type leads elsewhere, to the first place of that type, and what
-- follows the node on the path follows there.
pub record IsBelow (tree : Content) (path : Segments) (layer : Layer) : Type 0 where
  pub depth : ℕ
  pub text : Text
  pub place : Segments
  pub within : depth ≤ length path
  pub names : super_at tree (take depth path) ≡ Some text
  pub deepest : (n : ℕ) → depth < n → n ≤ length path → super_at tree (take n path) ≡ None
  pub leads : place_of tree text ≡ Some place
  pub goes_on : path_or_none (place ++ drop depth path) ≡ Some layer.path
  pub is : layer ≡ make_layer layer.path (length layer.path) (length path - depth)
