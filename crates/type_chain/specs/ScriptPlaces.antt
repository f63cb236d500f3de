-- The places at which a search for scripts has to look. What the chain says needs none of it, and `only` is needed by private functions
-- and proofs alone.
use Rattle.std.specs.Prelude.{◌≡◌, ◌==◌, ℕ, Bool, true, false, not, if◌then◌else◌, List, [], ◌∷◌, Option, Some, None, flat_map, length}
use Rattle.std.specs.List.{list_all}
use Rattle.sp_base.specs.Texts.{Segments}
use Rattle.sp_base.specs.Paths.{is_path}
use Rattle.resource_tree.specs.Content.{Content, node_at, name_of}
use Rattle.resource_tree.specs.declared.nodes.Node.{Node}
use Rattle.type_chain.specs.declared.script_places.ScriptPlace.{ScriptPlace}
use Rattle.type_chain.specs.declared.type_name.TypeName.{TypeName}
use Rattle.type_chain.specs.Types.{places}

-- whether there is a node, and it has kids
abbrev pub has_kids : Option Node → Bool
has_kids None = false
has_kids (Some node) = not (length node.kids == 0)

-- the script place at a place, where its node has kids
abbrev pub script_place_at : Content → List ℕ → Segments → List ScriptPlace
script_place_at tree label place = if has_kids (node_at tree place) then record { label = label; place = place } ∷ [] else []

-- the script places of a type: its places at which the node has kids
unfoldable pub script_places_of : Content → TypeName → List ScriptPlace
script_places_of tree type = flat_map (script_place_at tree (name_of type.segs)) (places type)

-- the type, if there is one
abbrev pub only : Option TypeName → List TypeName
only None = []
only (Some type) = type ∷ []

-- the script places of types, which are paths
abbrev pub AreScriptPlacesOf : Content → List TypeName → List ScriptPlace → Type 0
AreScriptPlacesOf tree types script_places = (script_places ≡ flat_map (script_places_of tree) types) × (list_all (λ type. is_path type.segs) types ≡ true)
