-- The content with a patch over it, by look-ups.
use Rattle.std.proofs.Common.{◌≡◌, ℕ, Bool, true, false, cond, List, [], ◌∷◌, ◌++◌, refl, ◌∙◌, ap, Some, None, ⊎_elim}
use Rattle.std.specs.Prelude.{is_some}
use Rattle.std.specs.Ordering.{eq_by_cmp}
use Rattle.std.specs.Cmp.{eq_by_cmp_equiv}
use Rattle.std.specs.List.{IsDistinct}
use Rattle.std.specs.List.Sorted.{IsStrictlySortedBy}
use Rattle.std.specs.Map.{keys_of, set_value}
use Rattle.std.proofs.lemmas.Bool.{cases_Bool}
use Rattle.std.proofs.lemmas.Map.{lookup-remove_entry, lookup-none}
use Rattle.std.proofs.lemmas.Map.Keys.{IsDistinct-from_sorted, IsDistinct-tail}
use Rattle.std.proofs.lemmas.Map.Entries.{none_past_head}
use Rattle.sp_base.proofs.OrderingLemmas.{by_path_total}
use Rattle.indexmap.specs.IndexMap.{insert_entry}
use Rattle.resource_tree.specs.declared.patch.PatchNode.{PatchNode}
use Rattle.resource_tree.specs.declared.patch.PatchNode.TheVariants as patch_node
use Rattle.resource_tree.specs.Content.{Content, by_path, same_path, node_at}
use Rattle.resource_tree.specs.Patches.{PatchEntries, entry_at, with_entry, over, patching, patching_at, left_by}
use Rattle.resource_tree.proofs.PathLemmas.{path_from_same}
use Rattle.resource_tree.proofs.EntriesInOrder.{lookup-insert_entry, sorted-insert_entry, sorted-remove_entry}

under_cond : {A : Type 0} (b : Bool) (x : A) (xs ys : List A) → (x ∷ cond b xs ys) ≡ cond b (x ∷ xs) (x ∷ ys)
under_cond true x xs ys = refl
under_cond false x xs ys = refl

-- an entry that is put as the map puts it
pub with_entry-is : (entries : PatchEntries) (path : List (List ℕ)) (node : PatchNode) → insert_entry (eq_by_cmp by_path) entries path node ≡ with_entry entries path node
with_entry-is [] path node = refl
with_entry-is (e ∷ entries) path node =
    elim (same_path path e.0) as (λ b. cond b ((e.0, node) ∷ entries) (e ∷ insert_entry (eq_by_cmp by_path) entries path node)
    ≡ cond (is_some (cond b (Some e.1) (entry_at entries path))) (cond b ((e.0, node) ∷ entries) (e ∷ set_value (same_path path) entries node)) (e ∷ entries ++ (path, node) ∷ [])) [
      | true ↦ refl
      | false ↦ ap (λ r. e ∷ r) (with_entry-is entries path node) ∙ under_cond (is_some (entry_at entries path)) e (set_value (same_path path) entries node) (entries ++ (path, node) ∷ [])
    ]

sorted-over : (tree : Content) (path : List (List ℕ)) (entry : PatchNode) → IsStrictlySortedBy by_path (keys_of tree) → IsStrictlySortedBy by_path (keys_of (over tree path entry))
sorted-over tree path (patch_node.Node node) sorted = sorted-insert_entry by_path by_path_total tree path node sorted
sorted-over tree path patch_node.Gone sorted = sorted-remove_entry by_path (same_path path) tree sorted

node_at-over : (tree : Content) (path : List (List ℕ)) (entry : PatchNode) (q : List (List ℕ)) → IsStrictlySortedBy by_path (keys_of tree) → node_at (over tree path entry) q ≡ cond (same_path path q) (left_by (Some entry) (node_at tree q)) (node_at tree q)
node_at-over tree path (patch_node.Node node) q sorted =
    lookup-insert_entry by_path by_path_total q path node tree ∙ ap (λ b. cond b (Some node) (node_at tree q)) ((eq_by_cmp_equiv by_path_total).symm q path)
node_at-over tree path patch_node.Gone q sorted =
    let laws = eq_by_cmp_equiv by_path_total in
    lookup-remove_entry laws (same_path path) (laws.congr path) q tree (IsDistinct-from_sorted by_path _ sorted)

-- each path has one entry, so that the order of the entries is nothing
pub node_at-patching : (tree : Content) (entries : PatchEntries) (q : List (List ℕ)) → IsStrictlySortedBy by_path (keys_of tree) → IsDistinct (eq_by_cmp by_path) (keys_of entries) → node_at (patching tree entries) q ≡ patching_at tree entries q
node_at-patching tree [] q sorted once = refl
node_at-patching tree (r ∷ entries) q sorted once =
    let laws = eq_by_cmp_equiv by_path_total in
    let turn = laws.symm r.0 q in
    node_at-patching (over tree r.0 r.1) entries q (sorted-over tree r.0 r.1 sorted) (IsDistinct-tail (eq_by_cmp by_path) r.0 (keys_of entries) once)
    ∙ ap (left_by (entry_at entries q)) (node_at-over tree r.0 r.1 q sorted)
    ∙ ⊎_elim
    (λ same.
    let here : same_path r.0 q ≡ true = turn ∙ same in
    let later : entry_at entries r.0 ≡ None = lookup-none (same_path r.0) entries (none_past_head laws r.0 r entries once (laws.refl r.0)) in
    let none : entry_at entries q ≡ None = ap (entry_at entries) (path_from_same q r.0 same) ∙ later in
    rw (same, here, none))
    (λ other. let apart : same_path r.0 q ≡ false = turn ∙ other in rw (other, apart))
    (cases_Bool (same_path q r.0))

pub patching-push : (tree : Content) (entries : PatchEntries) (r : List (List ℕ) × PatchNode) → patching tree (entries ++ r ∷ []) ≡ over (patching tree entries) r.0 r.1
patching-push tree [] r = refl
patching-push tree (x ∷ entries) r = patching-push (over tree x.0 x.1) entries r

pub sorted-patching : (tree : Content) (entries : PatchEntries) → IsStrictlySortedBy by_path (keys_of tree) → IsStrictlySortedBy by_path (keys_of (patching tree entries))
sorted-patching tree [] sorted = sorted
sorted-patching tree (r ∷ entries) sorted = sorted-patching (over tree r.0 r.1) entries (sorted-over tree r.0 r.1 sorted)
