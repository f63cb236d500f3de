-- What is to stand at some paths, and the content with that over it.
use Rattle.std.specs.Prelude.{◌++◌, ◌∷◌, [], List, Option, Some, None, is_some, if◌then◌else◌}
use Rattle.std.specs.BTreeMap.{insert_entry}
use Rattle.std.specs.Map.{lookup, set_value, remove_entry}
use Rattle.sp_base.specs.Texts.{Segments}
use Rattle.resource_tree.specs.declared.nodes.Node.{Node}
use Rattle.resource_tree.specs.declared.patch.PatchNode.{PatchNode}
use Rattle.resource_tree.specs.declared.patch.PatchNode.TheVariants as patch_node
use Rattle.resource_tree.specs.Content.{Content, by_path, same_path, node_at}

-- what is to stand at each path of a patch, each path once, in the order in which they were first put
abbrev pub PatchEntries : Type 0
PatchEntries = List (Segments × PatchNode)

-- what is to stand at a path, if the patch has it
abbrev pub entry_at : PatchEntries → Segments → Option PatchNode
entry_at entries path = lookup (same_path path) entries

-- the entries with what is to stand at a path
abbrev pub with_entry : PatchEntries → Segments → PatchNode → PatchEntries
with_entry entries path node = if is_some (entry_at entries path) then set_value (same_path path) entries node else entries ++ (path, node) ∷ []

-- the content with one entry over it
abbrev pub over : Content → Segments → PatchNode → Content
over tree path (patch_node.Node node) = insert_entry by_path tree path node
over tree path patch_node.Gone = remove_entry (same_path path) tree

-- the content with a patch over it
abbrev pub patching : Content → PatchEntries → Content
patching tree [] = tree
patching tree (entry ∷ entries) = patching (over tree entry.0 entry.1) entries

-- the node that an entry leaves at its path, where there is an entry
abbrev pub left_by : Option PatchNode → Option Node → Option Node
left_by None old = old
left_by (Some (patch_node.Node node)) old = Some node
left_by (Some patch_node.Gone) old = None

-- the content with a patch over it by look-ups
abbrev pub patching_at : Content → PatchEntries → Segments → Option Node
patching_at tree entries path = left_by (entry_at entries path) (node_at tree path)
