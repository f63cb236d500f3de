-- What proofs and private functions need: the steps of reading and of writing.
use Rattle.std.specs.Prelude.{◌≡◌, ◌-◌, ◌&&◌, ◌||◌, not, is_some, ℕ, List, [], ◌∷◌, Bool, true, false, T, Option, Some, None, option_map, if◌then◌else◌, flat_map, length}
use Rattle.std.specs.FinMap.Entries.{is_sorted}
use Rattle.std.specs.List.{list_all, list_any}
use Rattle.std.specs.Str.{bytes_eq}
use Rattle.sp_base.specs.Texts.{Segments, Text, Properties}
use Rattle.json.specs.Json as json
use Rattle.json.specs.Token.{Token}
use Rattle.json.specs.Tree.{json_tokens}
use Rattle.serde_json.specs.Data.{Data, Members, object}
use Rattle.sp_base.specs.Paths.{most_segments}
use Rattle.sp_base.specs.Names.{by_name}
use Rattle.resource_tree.specs.declared.nodes.Node.{Node}
use Rattle.resource_tree.specs.Content.{Content, node_at, kid}
use Rattle.property_json.specs.PropertyJson.{items_of, has_longs}
use Rattle.content_json.specs.declared.fault.Found.{Found}
use Rattle.content_json.specs.Names.{order_name, is_order}
use Rattle.content_json.specs.Faults.{in_member, fault_in}
use Rattle.content_json.specs.ContentOf.{is_too_big}
use Rattle.content_json.specs.Nodes.{nodes_in}
use Rattle.content_json.specs.Written.{node_json}

-- the second path is the first or is below it
abbrev pub is_at_or_below : Segments → Segments → Bool
is_at_or_below [] q = true
is_at_or_below (s ∷ path) [] = false
is_at_or_below (s ∷ path) (t ∷ q) = bytes_eq s t && is_at_or_below path q

-- ---- reading

-- the first fault of a member
abbrev pub member_fault : List ℕ → Data → Option Found
member_fault name d = if is_order name then None else option_map (in_member name) (fault_in d)

-- the nodes of a member of the object at a path
abbrev pub member_nodes : Segments → List ℕ → Data → Content
member_nodes path name d = if is_order name then [] else nodes_in (kid path name) d

-- no fault, and not too big
abbrev pub is_sound : Members → Bool
is_sound ms = not (is_some (fault_in (object ms)) || is_too_big ms)

-- ---- writing

-- the tokens of `:order`
abbrev pub order_tokens : List Text → List Token
order_tokens [] = []
order_tokens (name ∷ names) = Token.key order_name ∷ json_tokens (json.array (items_of json.string (name ∷ names)))

-- the node at a path, and all below it
abbrev pub whole_at : Content → Segments → json.Json
whole_at tree path = node_json tree (most_segments - length path) path

-- the tokens of kids of these names
abbrev pub kid_tokens : Content → Segments → List Text → List Token
kid_tokens tree path names = flat_map (λ name. Token.key name ∷ json_tokens (whole_at tree (kid path name))) names

-- properties in the order of their names, whose numbers are of 64 bits
pub record AreProps (props : Properties) : Type 0 where
  pub sorted : T (is_sorted by_name props)
  pub longs : list_all (λ p. has_longs p.1) props ≡ true

-- so are those of each node at a path or below it
abbrev pub AreBelow : Content → Segments → Type 0
AreBelow tree path = (q : Segments) (node : Node) → is_at_or_below path q ≡ true → node_at tree q ≡ Some node → AreProps node.props

-- and at or below one of these kids
abbrev pub AreBelowKids : Content → Segments → List Text → Type 0
AreBelowKids tree path names = (name : List ℕ) → list_any (bytes_eq name) names ≡ true → AreBelow tree (kid path name)
