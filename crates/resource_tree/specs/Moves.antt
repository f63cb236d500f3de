-- What a copy or a move of a node and all below it to another path makes of the content, and the first cause for which it is refused.
use Rattle.std.specs.Prelude.{◌++◌, ◌+◌, ◌||◌, Bool, Option, Some, None, is_some, is_none, not, nat_lt, length, drop, filter, map, option_map, ◌==◌, if◌then◌else◌}
use Rattle.std.specs.List.{list_any}
use Rattle.sp_base.specs.Texts.{Segments}
use Rattle.sp_base.specs.Paths.{is_path, is_under}
use Rattle.resource_tree.specs.declared.nodes.Node.{Node}
use Rattle.resource_tree.specs.declared.faults.TreeFault.{TreeFault}
use Rattle.resource_tree.specs.declared.faults.TreeFault.TheVariants.{NoSuch, RootFixed, IntoItself, Exists, Taken, TooDeep, FullTree}
use Rattle.resource_tree.specs.declared.patch.PatchNode.TheVariants as patch_node
use Rattle.resource_tree.specs.Content.{Content, most_nodes, same_path, node_at, parent_of, name_of}
use Rattle.resource_tree.specs.Changes.{change_at, with_kid, has_prop_at, removal, removal_at}
use Rattle.resource_tree.specs.Patches.{PatchEntries, patching}

-- the path at the target of one at the source
abbrev pub path_there : Segments → Segments → Segments → Segments
path_there source target path = target ++ drop (length source) path

-- the nodes at a path and under it
abbrev pub part : Content → Segments → Content
part tree path = filter (λ e. is_under e.0 path) tree

-- the same at the target
abbrev pub part_there : Content → Segments → Segments → PatchEntries
part_there tree source target = map (λ e. (path_there source target e.0, patch_node.Node e.1)) (part tree source)

-- the content with the nodes at the source and under it at the target too, which its parent names last
abbrev pub copy : Content → Segments → Segments → Content
copy tree source target = patching (change_at tree (parent_of target) (with_kid (name_of target))) (part_there tree source target)

-- the same by look-ups
abbrev pub copy_at : Content → Segments → Segments → Segments → Option Node
copy_at tree source target q =
    if is_under q target then node_at tree (path_there target source q)
    else (if same_path (parent_of target) q then option_map (with_kid (name_of target)) (node_at tree q) else node_at tree q)

-- whether a node at the source or under it would have no path at the target, which then has more than 64 segments
abbrev pub is_too_deep : Content → Segments → Segments → Bool
is_too_deep tree source target = list_any (λ e. not (is_path (path_there source target e.0))) (part tree source)

-- why the target is not free for a copy: the source or the target's parent isn't there, or the target is the root, or one of the two is under the
-- other, or a node is there, or a property has its name
abbrev pub target_fault : Content → Segments → Segments → Option TreeFault
target_fault tree source target =
    if is_none (node_at tree source) then Some (NoSuch source)
    else (if is_none (node_at tree (parent_of target)) then Some (NoSuch (parent_of target))
    else (if length target == 0 then Some RootFixed
    else (if is_under target source || is_under source target then Some IntoItself
    else (if is_some (node_at tree target) then Some (Exists target)
    else (if has_prop_at tree (parent_of target) (name_of target) then Some (Taken target) else None)))))

-- why a part of the content doesn't fit: a path would be too long, or there would be more than `most_nodes` nodes
abbrev pub part_size_fault : Content → Segments → Segments → Option TreeFault
part_size_fault tree source target =
    if is_too_deep tree source target then Some TooDeep
    else (if nat_lt most_nodes (length tree + length (part tree source)) then Some FullTree else None)

-- the first, or else the second
abbrev pub first_fault : Option TreeFault → Option TreeFault → Option TreeFault
first_fault (Some fault) other = Some fault
first_fault None other = other

-- why a part isn't copied: the target is not free for it, or it doesn't fit
abbrev pub copy_fault : Content → Segments → Segments → Option TreeFault
copy_fault tree source target = first_fault (target_fault tree source target) (part_size_fault tree source target)

-- ---- a move

-- the content with the nodes at the source and under it at the target instead, which its parent names last
abbrev pub relocation : Content → Segments → Segments → Content
relocation tree source target = patching (change_at (removal tree source) (parent_of target) (with_kid (name_of target))) (part_there tree source target)

-- the same by look-ups
abbrev pub relocation_at : Content → Segments → Segments → Segments → Option Node
relocation_at tree source target q =
    if is_under q target then node_at tree (path_there target source q)
    else (if same_path (parent_of target) q then option_map (with_kid (name_of target)) (removal_at tree source q) else removal_at tree source q)

-- why a node may not go to the target: the source is the root, or the target is not free for a copy of it either
abbrev pub ends_fault : Content → Segments → Segments → Option TreeFault
ends_fault tree source target =
    if is_none (node_at tree source) then Some (NoSuch source)
    else (if is_none (node_at tree (parent_of target)) then Some (NoSuch (parent_of target))
    else (if length source == 0 then Some RootFixed else target_fault tree source target))

-- why a part isn't moved: it may not go to the target, or a path would be too long. No node is one more, so the tree is never full.
abbrev pub move_fault : Content → Segments → Segments → Option TreeFault
move_fault tree source target = first_fault (ends_fault tree source target) (if is_too_deep tree source target then Some TooDeep else None)
