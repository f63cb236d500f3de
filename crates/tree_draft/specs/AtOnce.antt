-- What a change makes of a content, and the first cause for which it is refused, whichever change it is. Only private functions and proofs cite this.
use Rattle.std.specs.Prelude.{Option, IsTrue}
use Rattle.sp_base.specs.Texts.{Segments}
use Rattle.sp_base.specs.Paths.{seg_ok}
use Rattle.resource_tree.specs.declared.nodes.Node.{Node}
use Rattle.resource_tree.specs.declared.faults.TreeFault.{TreeFault}
use Rattle.resource_tree.specs.Content.{Content, empty_node}
use Rattle.resource_tree.specs.Changes.{clearing, clearing_at, create_fault, creation, creation_at, fixed_fault, order_fault, removal, removal_at, reordering, reordering_at, set_fault, unset_fault, update, update_at}
use Rattle.resource_tree.specs.Moves.{copy, copy_at, copy_fault, move_fault, relocation, relocation_at}
use Rattle.tree_draft.specs.declared.at_once.Change.{Change}
use Rattle.tree_draft.specs.declared.at_once.Change.TheVariants.{Create, Set, Unset, Order, Remove, Copy, Move}

-- the content after a change
abbrev pub changed : Content → Change → Content
changed tree (Create path) = creation tree path.now empty_node
changed tree (Set path name value) = update tree path.now name.now value
changed tree (Unset path name) = clearing tree path.now name.now
changed tree (Order path place) = reordering tree path.now place.now
changed tree (Remove path) = removal tree path.now
changed tree (Copy source target) = copy tree source.now target.now
changed tree (Move source target) = relocation tree source.now target.now

-- the same by look-ups
abbrev pub changed_at : Content → Change → Segments → Option Node
changed_at tree (Create path) q = creation_at tree path.now empty_node q
changed_at tree (Set path name value) q = update_at tree path.now name.now value q
changed_at tree (Unset path name) q = clearing_at tree path.now name.now q
changed_at tree (Order path place) q = reordering_at tree path.now place.now q
changed_at tree (Remove path) q = removal_at tree path.now q
changed_at tree (Copy source target) q = copy_at tree source.now target.now q
changed_at tree (Move source target) q = relocation_at tree source.now target.now q

-- why a content isn't changed
abbrev pub change_fault : Content → Change → Option TreeFault
change_fault tree (Create path) = create_fault tree path.now
change_fault tree (Set path name value) = set_fault tree path.now name.now
change_fault tree (Unset path name) = unset_fault tree path.now
change_fault tree (Order path place) = order_fault tree path.now place.now
change_fault tree (Remove path) = fixed_fault tree path.now
change_fault tree (Copy source target) = copy_fault tree source.now target.now
change_fault tree (Move source target) = move_fault tree source.now target.now

-- a property that is set has a name that may be a segment of a path
abbrev pub HasName : Change → Type 0
HasName (Set path name value) = IsTrue (seg_ok name.now)
HasName change = Unit {0}
