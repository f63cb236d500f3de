-- The node that a draft shows at a path, whoever lends it. It is how contracts see a `DraftNode`; no clause of a call cites it.
use Rattle.resource_tree.specs.declared.nodes.Node.{Node}
use Rattle.tree_draft.specs.declared.seen.LentNode.{LentNode}
use Rattle.tree_draft.specs.declared.seen.LentNode.TheVariants.{Kept, Changed}

-- the node of the tree, or the changed one
abbrev pub lent_node : LentNode → Node
lent_node (Kept node) = node.now
lent_node (Changed node) = node.now
