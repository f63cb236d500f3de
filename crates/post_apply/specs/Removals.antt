-- Nodes and properties that a POST takes away (Apache Sling, "SlingPostServlet", `@Delete` and `:operation=delete`).
use Rattle.std.specs.Prelude.{Ok, is_some, if◌then◌else◌}
use Rattle.sp_base.specs.Outcomes.{◌>>=◌}
use Rattle.sp_base.specs.Texts.{Segments}
use Rattle.resource_tree.specs.Content.{Content, name_of, node_at, parent_of}
use Rattle.resource_tree.specs.Changes.{clearing, fixed_fault, has_prop_at, removal}
use Rattle.post_plan.specs.declared.spot.Spot.{Spot}
use Rattle.post_apply.specs.Steps.{ApplyOutcome, path_of_spot, changed_unless_fault}

-- the node at a path, taken away with all below it
abbrev pub removal_outcome : Content → Segments → ApplyOutcome Content
removal_outcome tree path = changed_unless_fault (fixed_fault tree path) (removal tree path)

-- the property at a path, taken away where it is there
abbrev pub without_property : Content → Segments → Content
without_property tree path = if has_prop_at tree (parent_of path) (name_of path) then clearing tree (parent_of path) (name_of path) else tree

-- the node or the property at a path, taken away where one is there
abbrev pub deletion_outcome : Content → Segments → ApplyOutcome Content
deletion_outcome tree path = if is_some (node_at tree path) then removal_outcome tree path else Ok (without_property tree path)

-- the same at a spot
abbrev pub delete_at : Segments → Content → Spot → ApplyOutcome Content
delete_at node tree spot = path_of_spot node spot >>= deletion_outcome tree
