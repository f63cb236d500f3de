-- A part that a draft puts at a target, and when a node may be taken from its place for that.
use Rattle.std.proofs.Common.{◌≡◌, ◌==◌, ◌&&◌, ℕ, Bool, true, false, not, cond, List, length, sym, ◌∙◌, ap, None}
use Rattle.std.specs.Prelude.{is_none, is_some, option_map}
use Rattle.std.specs.Ordering.{eq_by_cmp}
use Rattle.std.specs.List.{IsDistinct, list_any}
use Rattle.std.specs.Map.{keys_of}
use Rattle.std.proofs.lemmas.Bool.{true≢false, false_from_ne_true}
use Rattle.sp_base.specs.Paths.{is_path, is_under}
use Rattle.resource_tree.specs.Content.{Content, by_path, same_path, node_at, parent_of, name_of}
use Rattle.resource_tree.specs.Changes.{change_at, fixed_fault, removal, with_kid, without_kid}
use Rattle.resource_tree.specs.Patches.{PatchEntries, entry_at, patching, left_by}
use Rattle.resource_tree.specs.Moves.{ends_fault, is_too_deep, part_there, path_there}
use Rattle.resource_tree.proofs.PathLemmas.{kid_parts}
use Rattle.resource_tree.proofs.Under.{under_kid}
use Rattle.resource_tree.proofs.Creation.{no_fault}
use Rattle.resource_tree.proofs.Removal.{node_at-removal}
use Rattle.resource_tree.proofs.Patching.{node_at-patching, sorted-patching}
use Rattle.resource_tree.proofs.CopyParts.{any_same, once_there}
use Rattle.resource_tree.proofs.Copied.{sorted-change_at}
use Rattle.resource_tree.proofs.Relocated.{MayGo, some_under}
use Rattle.tree_draft.proofs.DraftLemmas.{IsOrdered, same_content}

-- entries in another order are the same patch, where each path has one
pub patching-alike : (tree : Content) (entries others : PatchEntries) → IsOrdered tree → IsDistinct (eq_by_cmp by_path) (keys_of entries) → IsDistinct (eq_by_cmp by_path) (keys_of others) → ((q : List (List ℕ)) → entry_at entries q ≡ entry_at others q)
    → patching tree entries ≡ patching tree others
patching-alike tree entries others sorted once once_too alike =
    same_content _ _ (sorted-patching tree entries sorted) (sorted-patching tree others sorted) (λ q.
    node_at-patching tree entries q sorted once
    ∙ ap (λ r. left_by r (node_at tree q)) (alike q)
    ∙ sym (node_at-patching tree others q sorted once_too))

-- whether a path at the target would be too long, asked of the paths of the part
pub deep_from : (tree : Content) (source target : List (List ℕ)) (paths listed : List (List (List ℕ))) (deep : Bool) → ((q : List (List ℕ)) → list_any (same_path q) paths ≡ (is_some (node_at tree q) && is_under q source)) → listed ≡ paths
    → list_any (λ p. not (is_path (path_there source target p))) listed ≡ deep → is_too_deep tree source target ≡ deep
deep_from tree source target paths listed deep all same is =
    sym (any_same source (λ p. not (is_path (path_there source target p))) tree paths all) ∙ ap (list_any (λ p. not (is_path (path_there source target p)))) (sym same) ∙ is

-- the target's name among the kids of its parent, and the part over that, as the code makes them
pub part_put : (tree from new : Content) (source target parent : List (List ℕ)) (entries : PatchEntries) → IsOrdered tree → IsOrdered from → IsDistinct (eq_by_cmp by_path) (keys_of entries)
    → ((q : List (List ℕ)) → entry_at entries q ≡ entry_at (part_there tree source target) q) → parent ≡ parent_of target → new ≡ patching (change_at from parent (with_kid (name_of target))) entries
    → new ≡ patching (change_at from (parent_of target) (with_kid (name_of target))) (part_there tree source target)
part_put tree from new source target parent entries sorted sorted_from once alike above new_is =
    new_is
    ∙ ap (λ p. patching (change_at from p (with_kid (name_of target))) entries) above
    ∙ patching-alike (change_at from (parent_of target) (with_kid (name_of target))) entries (part_there tree source target) (sorted-change_at from (parent_of target) (with_kid (name_of target)) sorted_from) once (once_there source target tree sorted) alike

-- a node that may go to another path may be taken from its place
pub fixed_not : (tree : Content) (source target : List (List ℕ)) → ends_fault tree source target ≡ None → fixed_fault tree source ≡ None
fixed_not tree source target e =
    let a = no_fault (is_none (node_at tree source)) _ _ e in
    let b = no_fault (is_none (node_at tree (parent_of target))) _ _ a.1 in
    let there_ = a.0 in
    let deep = (no_fault (length source == 0) _ _ b.1).0 in
    rw (there_, deep)

-- the parent of the target stays when the source is taken away
pub parent_stays : (tree new : Content) (source target : List (List ℕ)) → MayGo tree source target → new ≡ removal tree source → is_some (node_at new (parent_of target)) ≡ true
parent_stays tree new source target can is =
    let apart : is_under (parent_of target) source ≡ false =
    false_from_ne_true _ (λ under. true≢false (sym (under_kid source (parent_of target) (name_of target) under) ∙ ap (λ p. is_under p source) (kid_parts target can.free.not_root) ∙ can.not_below)) in
    ap (λ (t : Content). is_some (node_at t (parent_of target))) is
    ∙ ap is_some (node_at-removal tree source (parent_of target))
    ∙ ap (λ u. is_some (cond u None (cond (same_path (parent_of source) (parent_of target)) (option_map (without_kid (name_of source)) (node_at tree (parent_of target))) (node_at tree (parent_of target))))) apart
    ∙ some_under (same_path (parent_of source) (parent_of target)) (without_kid (name_of source)) (node_at tree (parent_of target))
    ∙ can.free.parent_there
