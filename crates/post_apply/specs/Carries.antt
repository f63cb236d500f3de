-- Nodes and properties that a POST copies or moves (Apache Sling, "SlingPostServlet", `@CopyFrom`, `@MoveFrom`, `:operation=copy` and
-- `:operation=move`).
use Rattle.std.specs.Prelude.{◌==◌, ◌&&◌, ◌||◌, Bool, true, false, not, Option, Some, None, Ok, Err, is_none, is_some, length, option_and_then, if◌then◌else◌}
use Rattle.sp_base.specs.Outcomes.{◌>>=◌}
use Rattle.sp_base.specs.Texts.{Segments}
use Rattle.sp_base.specs.Paths.{is_under}
use Rattle.sp_base.specs.declared.value.Value.{Value}
use Rattle.resource_tree.specs.declared.faults.TreeFault.TheVariants.{NoSuch, RootFixed, IntoItself}
use Rattle.resource_tree.specs.Content.{Content, name_of, node_at, parent_of, prop_at}
use Rattle.resource_tree.specs.Moves.{copy, copy_fault, move_fault, relocation}
use Rattle.post_plan.specs.declared.spot.Carry.{Carry}
use Rattle.post_apply.specs.declared.fault.ApplyFault.{ApplyFault}
use Rattle.post_apply.specs.declared.fault.ApplyFault.TheVariants.{Tree, DestThere}
use Rattle.post_apply.specs.Steps.{ApplyOutcome, path_of_spot, changed_unless_fault, with_way}
use Rattle.post_apply.specs.Removals.{removal_outcome, without_property}
use Rattle.post_apply.specs.Values.{put_at}

-- whether one of the ends is the root, which isn't moved and is no goal
abbrev pub ends_at_root : Bool → Segments → Segments → Bool
ends_at_root moves from to = length to == 0 || (moves && length from == 0)

-- the first causes for which a node isn't copied or moved: it isn't there, the root is an end, one end is under the other, or the goal is
-- there and isn't to give way
abbrev pub carry_fault : Bool → Bool → Content → Segments → Segments → Option ApplyFault
carry_fault moves replaces tree from to =
    if is_none (node_at tree from) then Some (Tree (NoSuch from))
    else (if ends_at_root moves from to then Some (Tree RootFixed)
    else (if is_under to from || is_under from to then Some (Tree IntoItself)
    else (if not replaces && is_some (node_at tree to) then Some (DestThere to) else None)))

-- the content, unless there is a fault
abbrev pub unless : Option ApplyFault → Content → ApplyOutcome Content
unless None tree = Ok tree
unless (Some fault) tree = Err fault

-- the content without a node at the goal
abbrev pub outcome_without_goal : Content → Segments → ApplyOutcome Content
outcome_without_goal tree to = if is_some (node_at tree to) then removal_outcome tree to else Ok tree

-- the node at the goal too, or there instead; all other faults of the tree
abbrev pub carry_outcome : Bool → Segments → Segments → Content → ApplyOutcome Content
carry_outcome false from to tree = changed_unless_fault (copy_fault tree from to) (copy tree from to)
carry_outcome true from to tree = changed_unless_fault (move_fault tree from to) (relocation tree from to)

-- a node in the place of what stands at the goal, last among its siblings
abbrev pub replacement_outcome : Bool → Segments → Segments → Content → ApplyOutcome Content
replacement_outcome moves from to tree = outcome_without_goal tree to >>= carry_outcome moves from to

-- a node that an operation copies or moves
abbrev pub carry_node : Bool → Bool → Segments → Segments → Content → ApplyOutcome Content
carry_node moves replaces from to tree = unless (carry_fault moves replaces tree from to) tree >>= replacement_outcome moves from to

-- ---- what a parameter copies or moves

-- the value of the property at a path
abbrev pub property_at : Content → Segments → Option Value
property_at tree path = option_and_then (λ node. prop_at node (name_of path)) (node_at tree (parent_of path))

-- the content that a property's value leaves: without it, where it moves
abbrev pub content_left : Bool → Segments → Content → Content
content_left moves from tree = if moves then without_property tree from else tree

-- a property, set at the goal, with the nodes on the way to it
abbrev pub bring_value : Bool → Segments → Segments → Option Value → Content → ApplyOutcome Content
bring_value moves from to None tree = Ok tree
bring_value moves from to (Some value) tree = with_way (parent_of to) tree >>= λ t. put_at (content_left moves from t) to value

-- a node, which takes the place of what stands at the goal, with the nodes on the way to it
abbrev pub bring_node : Bool → Segments → Segments → Content → ApplyOutcome Content
bring_node moves from to tree = do
  begun ← unless (carry_fault moves true tree from to) tree
  ready ← with_way (parent_of to) begun
  replacement_outcome moves from to ready

-- the node at a path, else the property there; nothing where neither is there
abbrev pub bring : Bool → Segments → Segments → Content → ApplyOutcome Content
bring moves from to tree = if is_some (node_at tree from) then bring_node moves from to tree else bring_value moves from to (property_at tree from) tree

-- the same at spots
abbrev pub carry_at : Bool → Segments → Content → Carry → ApplyOutcome Content
carry_at moves node tree carry = do
  to ← path_of_spot node carry.to
  from ← path_of_spot node carry.from
  bring moves from to tree
