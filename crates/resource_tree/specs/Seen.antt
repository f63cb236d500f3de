-- What a tree shows at a path: its node as it is.
use Rattle.std.specs.Prelude.{List, Option, option_map}
use Rattle.sp_base.specs.Texts.{Segments, Text, Properties}
use Rattle.resource_tree.specs.declared.nodes.Node.{Node}
use Rattle.resource_tree.specs.Content.{Content, node_at}

-- a node at its path, as it is shown: its properties in the order of their names, and the names of its kids in their order
pub record Resource : Type 0 where
  pub path : Segments
  pub props : Properties
  pub kids : List Text

-- what is seen: the resource at a path, if there is one
abbrev pub Seen : Type 0
Seen = Segments → Option Resource

-- a node as the resource at a path
abbrev pub res_of : Segments → Node → Resource
res_of path node = record { path = path; props = node.props; kids = node.kids }

-- the node at a path as a resource, if there is one
abbrev pub res_at : Content → Segments → Option Resource
res_at tree path = option_map (res_of path) (node_at tree path)
