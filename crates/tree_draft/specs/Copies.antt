-- How the nodes of a copy are put at its target. Only private functions and proofs cite this.
use Rattle.std.specs.List.{list_any}
use Rattle.std.specs.Prelude.{◌≡◌, Bool, List, Some, not}
use Rattle.sp_base.specs.Paths.{is_path}
use Rattle.sp_base.specs.Texts.{Segments}
use Rattle.resource_tree.specs.Content.{Content, node_at}
use Rattle.resource_tree.specs.Moves.{path_there}
use Rattle.resource_tree.specs.Patches.{PatchEntries, with_entry}
use Rattle.resource_tree.specs.declared.nodes.Node.{Node}
use Rattle.resource_tree.specs.declared.patch.PatchNode.TheVariants as patch_node

-- whether one of these nodes would have no path at the target
abbrev pub some_are_too_deep : Segments → Segments → List Segments → Bool
some_are_too_deep source target paths = list_any (λ p. not (is_path (path_there source target p))) paths

-- the node at a path, if there is one, is put at another
abbrev pub PutsCopy : Content → Segments → Segments → PatchEntries → PatchEntries → Type 0
PutsCopy tree path there old new = (node : Node) → node_at tree path ≡ Some node → new ≡ with_entry old there (patch_node.Node node)
