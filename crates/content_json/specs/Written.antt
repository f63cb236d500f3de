-- The JSON text (RFC 8259) of a tree: each node is an object of its properties, then `:order`, then its kids.
use Rattle.std.specs.Prelude.{ℕ, zero, suc, ◌==◌, ◌&&◌, Bool, true, not, slice_index, List, [], ◌∷◌, length}
use Rattle.std.specs.List.{list_all}
use Rattle.std.specs.Option.{option_map_or}
use Rattle.sp_base.specs.Texts.{Segments, Properties}
use Rattle.sp_base.specs.Texts as texts
use Rattle.json.specs.Json.{Json, string, array, object, Members, no_members, member}
use Rattle.json.specs.Tree.{json_tokens}
use Rattle.json.specs.Print.{print}
use Rattle.sp_base.specs.Paths.{most_segments}
use Rattle.sp_base.specs.declared.value.Value.{Value}
use Rattle.sp_base.specs.declared.value.Value.TheVariants.{Longs, Truths}
use Rattle.resource_tree.specs.declared.nodes.Node.{Node}
use Rattle.resource_tree.specs.Content.{Content, node_at, kid}
use Rattle.resource_tree.specs.Changes.{kids_at}
use Rattle.property_json.specs.PropertyJson.{items_of, members_before}
use Rattle.content_json.specs.Names.{order_name}

-- the properties of the node at a path
abbrev pub props_at : Content → Segments → Properties
props_at tree path = option_map_or (λ node. node.props) (node_at tree path) []

-- the member `:order` before further members: all kids in their order, where there are some
abbrev pub order_before : List texts.Text → Members → Members
order_before [] ms = ms
order_before (name ∷ names) ms = member order_name (array (items_of string (name ∷ names))) ms

-- kids as members, each by the same rule
abbrev pub kids_json : (List ℕ → Json) → List texts.Text → Members
kids_json json [] = no_members
kids_json json (name ∷ names) = member name (json name) (kids_json json names)

-- the node at a path, before its kids as members
abbrev pub node_before : Content → Segments → Members → Json
node_before tree path ms = object (members_before (props_at tree path) (order_before (kids_at tree path) ms))

-- the node at a path, and n levels below it
unfoldable pub node_json : Content → ℕ → Segments → Json
node_json tree zero path = node_before tree path no_members
node_json tree (suc levels) path = node_before tree path (kids_json (λ name. node_json tree levels (kid path name)) (kids_at tree path))

-- the compact text of the whole tree; a path has at most 64 segments
unfoldable pub tree_text : Content → List ℕ
tree_text tree = print (json_tokens (node_json tree most_segments []))

-- a name that doesn't begin with a colon
abbrev pub has_no_colon : List ℕ → Bool
has_no_colon name = not (slice_index name 0 == 58)

-- `[]` is read as a list of texts
abbrev pub keeps_kind : Value → Bool
keeps_kind (Longs ns) = not (length ns == 0)
keeps_kind (Truths bs) = not (length bs == 0)
keeps_kind _ = true

-- no name of a kid or a property begins with a colon, and no list of numbers or truths is empty
abbrev pub is_plain_node : Node → Bool
is_plain_node node = list_all has_no_colon node.kids && list_all (λ p. has_no_colon p.0 && keeps_kind p.1) node.props

-- so it is at each node
abbrev pub is_plain_tree : Content → Bool
is_plain_tree tree = list_all (λ e. is_plain_node e.1) tree
