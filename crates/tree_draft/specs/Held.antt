-- What a draft holds at a path that was changed, as an entry of a patch. Scaffolding: only private types and functions and proofs cite this.
use Rattle.std.specs.Prelude.{Option, Some, None}
use Rattle.resource_tree.specs.declared.nodes.Node.{Node}
use Rattle.resource_tree.specs.declared.patch.PatchNode.{PatchNode}
use Rattle.resource_tree.specs.declared.patch.PatchNode.TheVariants as patch_node

-- what is to stand at a path where a draft holds a node, or none
abbrev pub patch_entry : Option Node → PatchNode
patch_entry None = patch_node.Gone
patch_entry (Some node) = patch_node.Node node

-- the node of an entry
abbrev pub entry_node : PatchNode → Option Node
entry_node patch_node.Gone = None
entry_node (patch_node.Node node) = Some node
