-- The way from the top of content to a path, a member at each step.
use Rattle.std.specs.Prelude.{◌≡◌, take, [], ◌∷◌, Option, Some, None, if◌then◌else◌, option_and_then, option_map, List, ◌++◌}
use Rattle.std.specs.List.Sorted.{IsStrictlySortedBy}
use Rattle.sp_base.specs.Texts.{Segments, Text}
use Rattle.serde_json.specs.Data.{Data, Members, object}
use Rattle.serde_json.specs.Find.{get, as_object}
use Rattle.sp_base.specs.Paths.{most_segments}
use Rattle.sp_base.specs.Names.{by_name}
use Rattle.resource_tree.specs.declared.nodes.Node.{Node}
use Rattle.resource_tree.specs.Content.{Content, kid, node_at, prop_at}
use Rattle.content_json.specs.declared.fault.Found.{Found}
use Rattle.content_json.specs.Lists.{data_value}
use Rattle.content_json.specs.Names.{is_order}
use Rattle.content_json.specs.Faults.{own_cause}
use Rattle.content_json.specs.Nodes.{node_of_members, kids_of, order_names}

-- the value that members of these names lead to, none of them `:order`
abbrev pub way_end : Segments → Data → Option Data
way_end [] d = Some d
way_end (name ∷ way) d = if is_order name then None else option_and_then (way_end way) (get name d)

-- the node that a value stands for, where it is an object
abbrev pub node_of_value : Data → Option Node
node_of_value d = option_map node_of_members (as_object d)

-- a fault of content is at the end of a way, of which its place is the first 64 names
pub record IsPlaced (top : Data) (found : Found) : Type 0 where
  pub way : Segments
  pub value : Data
  pub at : way_end way top ≡ Some value
  pub place : found.place ≡ take most_segments way
  pub cause : own_cause value ≡ Some found.cause

-- the node at a path is the object that the members on the way lead to, and there is none where they lead to no object
abbrev pub IsNodeAtWay : Content → Data → Segments → Type 0
IsNodeAtWay tree top path = node_at tree path ≡ option_and_then node_of_value (way_end path top)

-- each property of a node at the path is the value that the path's members and its name lead to, as one of a property
abbrev pub HasPropsOfWay : Content → Data → Segments → Type 0
HasPropsOfWay tree top path = (node : Node) (name : Text) → node_at tree path ≡ Some node → prop_at node name ≡ option_and_then data_value (way_end (kid path name) top)

-- no value on any way has a fault of its own
abbrev pub HasNoCause : Data → Type 0
HasNoCause top = (way : Segments) (value : Data) → way_end way top ≡ Some value → own_cause value ≡ None

-- where the way leads to these members, the kids that `:order` names come first, in its order, and the others in the order of their bytes
abbrev pub HasKidsInOrderIfAtWay : Data → Segments → Members → Type 0
HasKidsInOrderIfAtWay top way members = way_end way top ≡ Some (object members)
    → (others : List Text) × (kids_of members ≡ order_names members ++ others) × IsStrictlySortedBy by_name others
