-- The node that a resource holds. Only the type of resources and its proofs cite this.
use Rattle.resource_tree.specs.declared.nodes.Node.{Node}
use Rattle.resource_tree.specs.declared.look.Shown.{Shown}
use Rattle.resource_tree.specs.declared.look.Shown.TheVariants.{Lent, Owned}

-- the node, whoever owns it
abbrev pub node_shown : Shown → Node
node_shown (Lent node) = node.now
node_shown (Owned node) = node
