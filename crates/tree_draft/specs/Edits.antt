-- A node after a change of it, and what an entry adds to a count of nodes. Only private functions and proofs cite this.
use Rattle.std.specs.Prelude.{ℕ, Bool, true, false}
use Rattle.resource_tree.specs.declared.nodes.Node.{Node}
use Rattle.resource_tree.specs.declared.patch.PatchNode.{PatchNode}
use Rattle.resource_tree.specs.declared.patch.PatchNode.TheVariants as patch_node
use Rattle.resource_tree.specs.Changes.{with_kid, without_kid, with_value, without_value}
use Rattle.tree_draft.specs.declared.edit.Edit.{Edit}
use Rattle.tree_draft.specs.declared.edit.Edit.TheVariants.{Kid, WithoutKid, Set, Unset}

-- a node after a change of it
abbrev pub edited_node : Edit → Node → Node
edited_node (Kid name) node = with_kid name node
edited_node (WithoutKid name) node = without_kid name node
edited_node (Set name value) node = with_value name value node
edited_node (Unset name) node = without_value name node

-- 1 where it holds, and else 0
abbrev pub one_if : Bool → ℕ
one_if true = 1
one_if false = 0

-- the entry leaves a node
abbrev pub is_node : PatchNode → Bool
is_node (patch_node.Node node) = true
is_node patch_node.Gone = false
