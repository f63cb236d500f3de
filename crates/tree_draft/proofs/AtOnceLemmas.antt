-- A changed content by look-ups, whichever the change is.
use Rattle.std.proofs.Common.{◌≡◌, ℕ, List, [], None}
use Rattle.resource_tree.specs.Content.{Content, IsGood, node_at, parent_of, name_of}
use Rattle.resource_tree.specs.Changes.{with_order, with_value, without_value}
use Rattle.resource_tree.specs.Moves.{ends_fault, target_fault}
use Rattle.resource_tree.proofs.Copied.{is_free, node_at-copy, no_first}
use Rattle.resource_tree.proofs.Creation.{can_create, node_at-creation}
use Rattle.resource_tree.proofs.NodeLookups.{node_at-change_at}
use Rattle.resource_tree.proofs.Relocated.{may_go, node_at-relocation}
use Rattle.resource_tree.proofs.Removal.{node_at-removal}
use Rattle.tree_draft.specs.declared.at_once.Change.{Change}
use Rattle.tree_draft.specs.declared.at_once.Change.TheVariants.{Create, Set, Unset, Order, Remove, Copy, Move}
use Rattle.tree_draft.specs.AtOnce.{change_fault, changed, changed_at}

pub node_at-changed : (tree : Content) (change : Change) (q : List (List ℕ)) → IsGood tree → change_fault tree change ≡ None → node_at (changed tree change) q ≡ changed_at tree change q
node_at-changed tree (Create path) q good allowed = node_at-creation tree path.now good.shape (can_create tree path.now allowed) [] q
node_at-changed tree (Set path name value) q good allowed = node_at-change_at tree path.now (with_value name.now value) q
node_at-changed tree (Unset path name) q good allowed = node_at-change_at tree path.now (without_value name.now) q
node_at-changed tree (Order path place) q good allowed = node_at-change_at tree (parent_of path.now) (with_order (name_of path.now) place.now) q
node_at-changed tree (Remove path) q good allowed = node_at-removal tree path.now q
node_at-changed tree (Copy source target) q good allowed = node_at-copy tree source.now target.now good (is_free tree source.now target.now (no_first (target_fault tree source.now target.now) _ allowed)) q
node_at-changed tree (Move source target) q good allowed = node_at-relocation tree source.now target.now good (may_go tree source.now target.now (no_first (ends_fault tree source.now target.now) _ allowed)) q
