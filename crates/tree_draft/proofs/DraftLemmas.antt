-- The content of a draft, by look-ups, and how many nodes it has.
use Rattle.std.proofs.Common.{◌≡◌, ◌+◌, ℕ, Bool, true, false, cond, List, [], length, refl, sym, ◌∙◌, ap, Some, None, Option, ⊎_elim, arith}
use Rattle.std.specs.Prelude.{is_some, option_map, unwrap_or}
use Rattle.std.specs.Ordering.{eq_by_cmp}
use Rattle.std.specs.Cmp.{eq_by_cmp_equiv}
use Rattle.std.specs.BTreeMap.{insert_entry}
use Rattle.std.specs.List.{IsDistinct}
use Rattle.std.specs.List.Sorted.{IsStrictlySortedBy}
use Rattle.std.specs.Map.{keys_of, remove_entry}
use Rattle.std.proofs.lemmas.Bool.{cases_Bool, true≢false, false≢true}
use Rattle.std.proofs.lemmas.Map.{lookup-remove_entry}
use Rattle.std.proofs.lemmas.Map.Keys.{IsDistinct-from_sorted}
use Rattle.sp_base.specs.PathExact.{exact_paths}
use Rattle.sp_base.proofs.OrderingLemmas.{by_path_total}
use Rattle.resource_tree.specs.declared.nodes.Node.{Node}
use Rattle.resource_tree.specs.declared.patch.PatchNode.{PatchNode}
use Rattle.resource_tree.specs.declared.patch.PatchNode.TheVariants as patch_node
use Rattle.resource_tree.specs.Content.{Content, HasSegmentNames, by_path, same_path, node_at, parent_of, name_of, empty_node}
use Rattle.resource_tree.specs.Changes.{change_at, creation, with_kid}
use Rattle.resource_tree.specs.Patches.{PatchEntries, entry_at, with_entry, over, patching, left_by}
use Rattle.resource_tree.proofs.PathLemmas.{path_from_same, same_path_self}
use Rattle.resource_tree.proofs.NodeLookups.{node_at-change_at, length-change_at, length-insert_entry}
use Rattle.resource_tree.proofs.EntriesInOrder.{same_in_order, lookup-insert_entry, sorted-insert_entry, sorted-remove_entry}
use Rattle.resource_tree.proofs.Patching.{node_at-patching, sorted-patching}
use Rattle.resource_tree.proofs.PartThere.{entry_at-with_entry}
use Rattle.resource_tree.proofs.Copied.{sorted-change_at}
use Rattle.tree_draft.specs.Edits.{one_if, is_node}

abbrev pub IsOrdered : Content → Type 0
IsOrdered tree = IsStrictlySortedBy by_path (keys_of tree)

pub same_content : (one other : Content) → IsOrdered one → IsOrdered other → ((q : List (List ℕ)) → node_at one q ≡ node_at other q) → one ≡ other
same_content one other s t h = same_in_order by_path by_path_total exact_paths one other s t h

pub sorted-over : (tree : Content) (path : List (List ℕ)) (entry : PatchNode) → IsOrdered tree → IsOrdered (over tree path entry)
sorted-over tree path (patch_node.Node node) sorted = sorted-insert_entry by_path by_path_total tree path node sorted
sorted-over tree path patch_node.Gone sorted = sorted-remove_entry by_path (same_path path) tree sorted

pub node_at-over : (tree : Content) (path : List (List ℕ)) (entry : PatchNode) (q : List (List ℕ)) → IsOrdered tree → node_at (over tree path entry) q ≡ cond (same_path path q) (left_by (Some entry) None) (node_at tree q)
node_at-over tree path (patch_node.Node node) q sorted =
    lookup-insert_entry by_path by_path_total q path node tree ∙ ap (λ b. cond b (Some node) (node_at tree q)) ((eq_by_cmp_equiv by_path_total).symm q path)
node_at-over tree path patch_node.Gone q sorted =
    let laws = eq_by_cmp_equiv by_path_total in
    lookup-remove_entry laws (same_path path) (laws.congr path) q tree (IsDistinct-from_sorted by_path _ sorted)

-- what an entry leaves, whatever was there
pub entry_left : (b : Bool) (entry : PatchNode) (r : Option PatchNode) (o : Option Node) → left_by (cond b (Some entry) r) o ≡ cond b (left_by (Some entry) None) (left_by r o)
entry_left true (patch_node.Node node) r o = refl
entry_left true patch_node.Gone r o = refl
entry_left false entry r o = refl

-- an entry more in a patch is one change more over the content
pub patching-with_entry : (tree : Content) (entries : PatchEntries) (path : List (List ℕ)) (entry : PatchNode) → IsOrdered tree → IsDistinct (eq_by_cmp by_path) (keys_of entries) → IsDistinct (eq_by_cmp by_path) (keys_of (with_entry entries path entry))
    → patching tree (with_entry entries path entry) ≡ over (patching tree entries) path entry
patching-with_entry tree entries path entry sorted once once_more =
    let sorted_now = sorted-patching tree entries sorted in
    same_content _ _ (sorted-patching tree (with_entry entries path entry) sorted) (sorted-over (patching tree entries) path entry sorted_now) (λ q.
    node_at-patching tree (with_entry entries path entry) q sorted once_more
    ∙ ap (λ r. left_by r (node_at tree q)) (entry_at-with_entry entries path q entry)
    ∙ entry_left (same_path path q) entry (entry_at entries q) (node_at tree q)
    ∙ ap (cond (same_path path q) (left_by (Some entry) None)) (sym (node_at-patching tree entries q sorted once))
    ∙ sym (node_at-over (patching tree entries) path entry q sorted_now))

-- a node that is put back changed, where the others are as they were
pub changed_node_put_back : (old mid new : Content) (path : List (List ℕ)) (node after : Node) (change : Node → Node) → IsOrdered old → IsOrdered mid → node_at old path ≡ Some node
    → ((q : List (List ℕ)) → same_path path q ≡ false → node_at mid q ≡ node_at old q) → after ≡ change node → new ≡ over mid path (patch_node.Node after) → new ≡ change_at old path change
changed_node_put_back old mid new path node after change sorted sorted_mid was others is put =
    put ∙ same_content _ _ (sorted-over mid path (patch_node.Node after) sorted_mid) (sorted-change_at old path change sorted) (λ q.
    let here : cond (same_path path q) (Some after) (node_at mid q) ≡ cond (same_path path q) (option_map change (node_at old q)) (node_at old q) =
    ⊎_elim
    (λ same. rw same (ap (λ (n : Node). Some n) is ∙ ap (option_map change) (sym was ∙ ap (node_at old) (path_from_same path q same))))
    (λ apart. rw apart (others q apart))
    (cases_Bool (same_path path q)) in
    node_at-over mid path (patch_node.Node after) q sorted_mid ∙ here ∙ sym (node_at-change_at old path change q))

-- an entry that is put back, with what it or the tree left changed, where the others are as they were
pub changed_entry_put_back : (old mid new : Content) (path place : List (List ℕ)) (entry : PatchNode) (change : Node → Node) → IsOrdered old → IsOrdered mid → Some entry ≡ option_map (λ n. patch_node.Node (change n)) (node_at old path)
    → ((q : List (List ℕ)) → same_path path q ≡ false → node_at mid q ≡ node_at old q) → place ≡ path → new ≡ over mid place entry → new ≡ change_at old path change
changed_entry_put_back old mid new path place entry change sorted sorted_mid is others same put = by_node (node_at old path) refl
  where
    by_node : (o : Option Node) → node_at old path ≡ o → new ≡ change_at old path change
    by_node None was = absurd (true≢false (ap is_some (is ∙ ap (option_map (λ n. patch_node.Node (change n))) was)))
    by_node (Some node) was =
        let entry_is : entry ≡ patch_node.Node (change node) = ap (λ o. unwrap_or o entry) (is ∙ ap (option_map (λ n. patch_node.Node (change n))) was) in
        changed_node_put_back old mid new path node (change node) change sorted sorted_mid was others refl (put ∙ ap (λ p. over mid p entry) same ∙ ap (λ (r : PatchNode). over mid path r) entry_is)

-- ---- how many nodes

replaced : (tree : Content) (path : List (List ℕ)) (node : Node) → IsOrdered tree → is_some (node_at tree path) ≡ true → insert_entry by_path tree path node ≡ change_at tree path (λ _. node)
replaced tree path node sorted there_ =
    changed_node_put_back tree tree _ path _ node (λ _. node) sorted sorted (some_is (node_at tree path) empty_node there_) (λ q apart. refl) refl refl
  where
    some_is : (o : Option Node) (d : Node) → is_some o ≡ true → o ≡ Some (unwrap_or o d)
    some_is None d e = absurd (true≢false (sym e))
    some_is (Some n) d e = refl

removed : (tree : Content) (path : List (List ℕ)) → IsOrdered tree → IsOrdered (remove_entry (same_path path) tree)
removed tree path sorted = sorted-remove_entry by_path (same_path path) tree sorted

gone : (tree : Content) (path : List (List ℕ)) → IsOrdered tree → node_at (remove_entry (same_path path) tree) path ≡ None
gone tree path sorted = node_at-over tree path patch_node.Gone path sorted ∙ (let same = same_path_self path in rw same)

-- what was taken out and put back
put_back : (tree : Content) (path : List (List ℕ)) (node : Node) → IsOrdered tree → node_at tree path ≡ Some node → insert_entry by_path (remove_entry (same_path path) tree) path node ≡ tree
put_back tree path node sorted was =
    same_content _ _ (sorted-insert_entry by_path by_path_total (remove_entry (same_path path) tree) path node (removed tree path sorted)) sorted (λ q.
    let here : cond (same_path path q) (Some node) (cond (same_path path q) None (node_at tree q)) ≡ node_at tree q =
    ⊎_elim
    (λ same. rw same (sym was ∙ ap (node_at tree) (path_from_same path q same)))
    (λ apart. rw apart)
    (cases_Bool (same_path path q)) in
    node_at-over (remove_entry (same_path path) tree) path (patch_node.Node node) q (removed tree path sorted)
    ∙ ap (cond (same_path path q) (Some node)) (node_at-over tree path patch_node.Gone q sorted)
    ∙ here)

-- what isn't there is not taken out
untouched : (tree : Content) (path : List (List ℕ)) → IsOrdered tree → node_at tree path ≡ None → remove_entry (same_path path) tree ≡ tree
untouched tree path sorted none =
    same_content _ _ (removed tree path sorted) sorted (λ q.
    let here : cond (same_path path q) None (node_at tree q) ≡ node_at tree q =
    ⊎_elim
    (λ same. rw same (sym none ∙ ap (node_at tree) (path_from_same path q same)))
    (λ apart. rw apart)
    (cases_Bool (same_path path q)) in
    node_at-over tree path patch_node.Gone q sorted ∙ here)

pub length-over : (tree : Content) (path : List (List ℕ)) (entry : PatchNode) → IsOrdered tree → length (over tree path entry) + one_if (is_some (node_at tree path)) ≡ length tree + one_if (is_node entry)
length-over tree path entry sorted = by_entry entry (node_at tree path) refl
  where
    by_entry : (r : PatchNode) (o : Option Node) → node_at tree path ≡ o → length (over tree path r) + one_if (is_some o) ≡ length tree + one_if (is_node r)
    by_entry (patch_node.Node node) None was = let more = length-insert_entry tree path node was in omega (arith, more)
    by_entry (patch_node.Node node) (Some old) was =
        let same : length (insert_entry by_path tree path node) ≡ length (change_at tree path (λ _. node)) = ap (λ (t : Content). length t) (replaced tree path node sorted (ap is_some was)) in
        let kept = length-change_at tree path (λ _. node) in
        omega (arith, same, kept)
    by_entry patch_node.Gone None was = let same : length (remove_entry (same_path path) tree) ≡ length tree = ap (λ (t : Content). length t) (untouched tree path sorted was) in omega (arith, same)
    by_entry patch_node.Gone (Some old) was =
        let more = length-insert_entry (remove_entry (same_path path) tree) path old (gone tree path sorted) in
        let same : length (insert_entry by_path (remove_entry (same_path path) tree) path old) ≡ length tree = ap (λ (t : Content). length t) (put_back tree path old sorted was) in
        omega (arith, more, same)

-- a count that is kept
pub recounted : (n old : ℕ) (new tree : Content) (path : List (List ℕ)) (entry : PatchNode) (a b : Bool) → new ≡ over tree path entry → IsOrdered tree → a ≡ is_some (node_at tree path) → b ≡ is_node entry → n + one_if a ≡ old + one_if b → old ≡ length tree → n ≡ length new
recounted n old new tree path entry a b is sorted there_ entry_is counts was =
    let sizes = length-over tree path entry sorted in
    let size : length new ≡ length (over tree path entry) = ap (λ (t : Content). length t) is in
    let one : one_if a ≡ one_if (is_some (node_at tree path)) = ap one_if there_ in
    let other : one_if b ≡ one_if (is_node entry) = ap one_if entry_is in
    omega (arith, sizes, size, one, other, counts, was)

-- ---- a new node

pub still_there : (tree new : Content) (path q : List (List ℕ)) (node : Node) → IsOrdered tree → new ≡ over tree path (patch_node.Node node) → is_some (node_at tree q) ≡ true → is_some (node_at new q) ≡ true
still_there tree new path q node sorted is there_ =
    let both : (b : Bool) → is_some (cond b (Some node) (node_at tree q)) ≡ true = λ b. elim b as (λ x. is_some (cond x (Some node) (node_at tree q)) ≡ true) [
      | true ↦ refl
      | false ↦ there_
    ] in
    ap (λ (t : Content). is_some (node_at t q)) is ∙ ap is_some (node_at-over tree path (patch_node.Node node) q sorted) ∙ both (same_path path q)

pub created-is : (old put new : Content) (path parent : List (List ℕ)) → put ≡ over old path (patch_node.Node empty_node) → new ≡ change_at put parent (with_kid (name_of path)) → parent ≡ parent_of path → new ≡ creation old path empty_node
created-is old put new path parent is_put is_new above =
    is_new ∙ ap (λ (t : Content). change_at t parent (with_kid (name_of path))) is_put ∙ ap (λ p. change_at (over old path (patch_node.Node empty_node)) p (with_kid (name_of path))) above

pub no_names : HasSegmentNames []
no_names name there_ = absurd (false≢true there_)
