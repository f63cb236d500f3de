-- The layers of a merged path: the paths that it stands for, the lowest first (Apache Sling, "Resource Merger": overlay and override).
use Rattle.std.specs.Prelude.{◌-◌, ℕ, zero, suc, Bool, if◌then◌else◌, List, [], ◌∷◌, ◌++◌, Option, Some, None, is_some, option_and_then, option_map, codes, drop, take, length, reverse}
use Rattle.std.specs.List.{list_any}
use Rattle.std.specs.Option.{option_or}
use Rattle.sp_base.specs.Texts.{Segments, Text}
use Rattle.sp_base.specs.Paths.{path_or_none}
use Rattle.resource_tree.specs.Content.{Content, node_at, same_path}
use Rattle.type_chain.specs.Types.{place_of}
use Rattle.type_chain.specs.Chain.{super_at}
use Rattle.url_split.specs.Split.{at_greatest}
use Rattle.overlay_merge.specs.declared.layers.Layer.{Layer}
use Rattle.overlay_merge.specs.Roots.{is_overlay, is_override, root_depth}

-- a layer, with how far up it may be hidden itself, and how many last segments it has in common with the layer above
abbrev pub make_layer : Segments → ℕ → ℕ → Layer
make_layer path own common = record { path = path; own = own; common = common }

-- the layer of an overlay below a search path: what is below the search path is merged
abbrev pub overlay_layer : Segments → List ℕ → Layer
overlay_layer rest top = make_layer (top ∷ rest) (length rest) (length rest)

-- the layers of an overlay: below each search path, /libs before /apps
abbrev pub overlay_layers : Segments → List Layer
overlay_layers [] = []
overlay_layers (seg ∷ segs) = overlay_layer (seg ∷ segs) (codes "libs") ∷ overlay_layer (seg ∷ segs) (codes "apps") ∷ []

-- ---- overrides

-- first segments that lead to a node, and the text of its super type
abbrev pub base_at : ℕ → List ℕ → ℕ × List ℕ
base_at n text = (n, text)

-- how many first segments of a path lead to the deepest node on it that names a super type, and the text that does
unfoldable pub base_of : Content → Segments → Option (ℕ × List ℕ)
base_of tree path = at_greatest (λ n. option_map (base_at n) (super_at tree (take n path))) (suc (length path))

-- the layer at a path, of which these are the last segments in common with the layer above
abbrev pub override_layer : ℕ → Segments → Layer
override_layer common path = make_layer path (length path) common

-- the path with other first segments, where that is one
abbrev pub path_at : Segments → Segments → ℕ → Option Segments
path_at place path n = path_or_none (place ++ drop n path)

-- the layer below a path: the first place of the super type that its deepest node names, with what follows that node
abbrev pub layer_by : Content → Segments → ℕ × List ℕ → Option Layer
layer_by tree path base = option_map (override_layer (length path - base.0)) (option_and_then (λ place. path_at place path base.0) (place_of tree base.1))

-- the layer that a path is merged over, if there is one
unfoldable pub layer_below : Content → Segments → Option Layer
layer_below tree path = option_and_then (layer_by tree path) (base_of tree path)

-- a path is that of one of some layers
abbrev pub has_layer : List Layer → Segments → Bool
has_layer layers path = list_any (λ layer. same_path layer.path path) layers

-- after some layers the next one and those below it, n at most, up to a path that is there already
unfoldable pub descent : Content → ℕ → List Layer → Option Layer → List Layer
descent tree zero above next = []
descent tree (suc n) above None = []
descent tree (suc n) above (Some layer) = if has_layer above layer.path then [] else layer ∷ descent tree n (above ++ layer ∷ []) (layer_below tree layer.path)

-- the most layers
abbrev pub most_layers : ℕ
most_layers = 32

-- the layers of an override, the path itself the highest
abbrev pub override_layers : Content → Segments → List Layer
override_layers tree [] = []
override_layers tree (seg ∷ segs) = reverse (descent tree most_layers [] (Some (override_layer 0 (seg ∷ segs))))

-- the layers of a merged path; the two roots have none
unfoldable pub layers_of : Content → Segments → List Layer
layers_of tree path = if is_overlay path then overlay_layers (drop root_depth path)
    else (if is_override path then override_layers tree (drop root_depth path) else [])

-- whether a node is at one of the layers
abbrev pub has_node : Content → List Layer → Bool
has_node tree layers = list_any (λ layer. is_some (node_at tree layer.path)) layers

-- the deeper of two nodes that name a super type: this one, where it names one
abbrev pub deeper_base : ℕ → Option Text → Option (ℕ × Text) → Option (ℕ × Text)
deeper_base n text base = option_or (option_map (base_at n) text) base
