-- Steps of a POST: changes of the content that may be refused, one after another.
use Rattle.std.specs.Prelude.{◌++◌, ◌∷◌, [], List, Option, Some, None, Result, Ok, Err, is_some, if◌then◌else◌}
use Rattle.sp_base.specs.Outcomes.{◌>>=◌}
use Rattle.sp_base.specs.Texts.{Segments}
use Rattle.sp_base.specs.Paths.{path_or_none}
use Rattle.resource_tree.specs.declared.faults.TreeFault.{TreeFault}
use Rattle.resource_tree.specs.declared.faults.TreeFault.TheVariants.{TooDeep}
use Rattle.resource_tree.specs.Content.{Content, empty_node, kid, node_at}
use Rattle.resource_tree.specs.Changes.{create_fault, creation}
use Rattle.post_plan.specs.declared.spot.Spot.{Spot}
use Rattle.post_apply.specs.declared.fault.ApplyFault.{ApplyFault}
use Rattle.post_apply.specs.declared.fault.ApplyFault.TheVariants.{Tree}

-- what a step gives, or why it is refused
abbrev pub ApplyOutcome : Type 0 → Type 0
ApplyOutcome A = Result A ApplyFault

-- a step for each in turn, until one is refused
unfoldable pub in_turn : {X : Type 0} → (Content → X → ApplyOutcome Content) → List X → Content → ApplyOutcome Content
in_turn step [] tree = Ok tree
in_turn step (x ∷ more) tree = step tree x >>= in_turn step more

-- a change of the tree, unless it has a fault
abbrev pub changed_unless_fault : Option TreeFault → Content → ApplyOutcome Content
changed_unless_fault None changed = Ok changed
changed_unless_fault (Some fault) changed = Err (Tree fault)

-- ---- nodes that are made

-- a new node, without properties and kids
abbrev pub creation_outcome : Content → Segments → ApplyOutcome Content
creation_outcome tree path = changed_unless_fault (create_fault tree path) (creation tree path empty_node)

-- a node at the path, new where none is there
abbrev pub with_node : Content → Segments → ApplyOutcome Content
with_node tree path = if is_some (node_at tree path) then Ok tree else creation_outcome tree path

-- the nodes to which names lead from a path, one below the other, new where they aren't there
unfoldable pub with_nodes_below : Segments → Segments → Content → ApplyOutcome Content
with_nodes_below path [] tree = Ok tree
with_nodes_below path (name ∷ names) tree = with_node tree (kid path name) >>= with_nodes_below (kid path name) names

-- the node at a path and all above it, new where they aren't there
abbrev pub with_way : Segments → Content → ApplyOutcome Content
with_way path tree = with_nodes_below [] path tree

-- ---- places

-- segments that make a path, at most 64
abbrev pub or_too_deep : Option Segments → ApplyOutcome Segments
or_too_deep (Some path) = Ok path
or_too_deep None = Err (Tree TooDeep)

-- the path of a spot, for a node
abbrev pub path_of_spot : Segments → Spot → ApplyOutcome Segments
path_of_spot node spot = if spot.at_target then or_too_deep (path_or_none (node ++ spot.path)) else Ok spot.path
