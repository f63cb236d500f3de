-- The nodes that an object stands for: itself and each object within.
use Rattle.std.specs.Prelude.{ℕ, suc, ◌+◌, ◌-◌, ◌==◌, List, [], ◌∷◌, ◌++◌, Bool, false, not, ◌||◌, filter, if◌then◌else◌, option_and_then, unwrap_or}
use Rattle.std.specs.List.{list_any, filter_map}
use Rattle.std.specs.Option.{option_map_or}
use Rattle.std.specs.Str.{bytes_eq}
use Rattle.std.specs.FinMap.Entries.{put}
use Rattle.sp_base.specs.Texts.{Segments, Text, Properties}
use Rattle.serde_json.specs.Data.{Data, null, boolean, number, string, array, object, Items, no_items, Members, no_members, member}
use Rattle.serde_json.specs.Find.{as_str, as_array, get_member}
use Rattle.sp_base.specs.Names.{by_name}
use Rattle.resource_tree.specs.declared.nodes.Node.{Node}
use Rattle.resource_tree.specs.Content.{Content, kid}
use Rattle.content_json.specs.Names.{order_name, is_order, kid_names}
use Rattle.content_json.specs.Lists.{item_list, data_value}

-- what `:order` lists
abbrev pub order_items : Members → Items
order_items ms = unwrap_or (option_and_then as_array (get_member order_name ms)) no_items

-- the texts among what `:order` lists
abbrev pub order_names : Members → List Text
order_names ms = filter_map as_str (item_list (order_items ms))

-- the kids that `:order` names come first, the rest follow in the order of their bytes
abbrev pub kids_of : Members → List Text
kids_of ms = order_names ms ++ filter (λ name. not (list_any (bytes_eq name) (order_names ms))) (kid_names ms)

-- the properties, and a member's value under its name
abbrev pub with_member : List ℕ → Data → Properties → Properties
with_member name d props = if is_order name then props else option_map_or (λ value. put by_name name value props) (data_value d) props

-- the properties, and each member's value under its name
abbrev pub add_props : Properties → Members → Properties
add_props props no_members = props
add_props props (member name d ms) = add_props (with_member name d props) ms

-- the node of an object with these members
abbrev pub node_of_members : Members → Node
node_of_members ms = record { props = add_props [] ms; kids = kids_of ms }

-- the nodes of a value at a path, and of the members of the object there: each node before those below it
abbrev mutual
  pub nodes_in : Segments → Data → Content
  nodes_in path null = []
  nodes_in path (boolean b) = []
  nodes_in path (number n) = []
  nodes_in path (string s) = []
  nodes_in path (array ds) = []
  nodes_in path (object ms) = (path, node_of_members ms) ∷ nodes_below path ms

  pub nodes_below : Segments → Members → Content
  nodes_below path no_members = []
  nodes_below path (member name d ms) = (if is_order name then [] else nodes_in (kid path name) d) ++ nodes_below path ms

-- how many nodes a value has, and the members of an object
abbrev mutual
  pub count_in : Data → ℕ
  count_in null = 0
  count_in (boolean b) = 0
  count_in (number n) = 0
  count_in (string s) = 0
  count_in (array ds) = 0
  count_in (object ms) = suc (count_below ms)

  pub count_below : Members → ℕ
  count_below no_members = 0
  count_below (member name d ms) = (if is_order name then 0 else count_in d) + count_below ms

-- a node stands more than n levels below
abbrev mutual
  pub is_deeper : ℕ → Data → Bool
  is_deeper levels null = false
  is_deeper levels (boolean b) = false
  is_deeper levels (number n) = false
  is_deeper levels (string s) = false
  is_deeper levels (array ds) = false
  is_deeper levels (object ms) = (levels == 0) || is_deeper_below (levels - 1) ms

  pub is_deeper_below : ℕ → Members → Bool
  is_deeper_below levels no_members = false
  is_deeper_below levels (member name d ms) = (if is_order name then false else is_deeper levels d) || is_deeper_below levels ms
