-- What is asked of the paths of a part is asked of its nodes, and how many they are.
use Rattle.std.proofs.Common.{◌≡◌, ◌+◌, ◌≤◌, ℕ, Bool, true, false, cond, ◌||◌, ◌&&◌, List, [], ◌∷◌, map, length, refl, sym, ◌∙◌, ap, Some, None, ⊎_elim, arith}
use Rattle.std.specs.Prelude.{is_some, IsSome, option_map}
use Rattle.std.specs.declared.cmp.Ordering.TheVariants.{Less, Equal, Greater}
use Rattle.std.specs.Ordering.{match_ordering, eq_by_cmp}
use Rattle.std.specs.BTreeMap.{insert_entry}
use Rattle.std.specs.List.{AllByRecursion, IsDistinct, list_any}
use Rattle.std.specs.List.Sorted.{IsStrictlySortedBy}
use Rattle.std.specs.Map.{keys_of, remove_entry}
use Rattle.std.specs.Cmp.{eq_by_cmp_equiv}
use Rattle.std.proofs.lemmas.Bool.{cases_Bool, and_parts, or_right, false≢true, true≢false, false_from_ne_true}
use Rattle.std.proofs.lemmas.List.{length-map}
use Rattle.std.proofs.lemmas.Map.{lookup-none}
use Rattle.std.proofs.lemmas.Map.Keys.{IsDistinct-from_sorted, IsDistinct-tail, IsDistinct-cons}
use Rattle.std.proofs.lemmas.Map.Entries.{none_past_head}
use Rattle.sp_base.specs.PathExact.{exact_paths}
use Rattle.sp_base.specs.Paths.{is_under}
use Rattle.sp_base.proofs.OrderingLemmas.{by_path_total}
use Rattle.resource_tree.specs.declared.nodes.Node.{Node}
use Rattle.resource_tree.specs.declared.patch.PatchNode.{PatchNode}
use Rattle.resource_tree.specs.declared.patch.PatchNode.TheVariants as patch_node
use Rattle.resource_tree.specs.Content.{Content, by_path, same_path, node_at}
use Rattle.resource_tree.specs.Patches.{PatchEntries, entry_at, over, patching}
use Rattle.resource_tree.specs.Moves.{path_there, part, part_there}
use Rattle.resource_tree.proofs.PathLemmas.{path_from_same, same_path_self}
use Rattle.resource_tree.proofs.Copying.{there-back}
use Rattle.resource_tree.proofs.PartThere.{under_there, entry_at-part_there}
use Rattle.resource_tree.proofs.EntriesInOrder.{length-in_order, in_order-same}

module _ (source : List (List ℕ)) (test : List (List ℕ) → Bool) where
  abbrev any_of : Content → Bool
  any_of tree = list_any (λ e. test e.0) (part tree source)

  pub in_part : (p : List (List ℕ)) (tree : Content) → IsSome (node_at tree p) → is_under p source ≡ true → test p ≡ true → any_of tree ≡ true
  in_part p [] there_ under is = absurd (false≢true there_)
  in_part p (e ∷ tree) there_ under is =
      ⊎_elim
      (λ same.
      let e_is : e.0 ≡ p = sym (path_from_same p e.0 same) in
      let its : is_under e.0 source ≡ true = ap (λ r. is_under r source) e_is ∙ under in
      ap (λ b. list_any (λ e. test e.0) (cond b (e ∷ part tree source) (part tree source))) its ∙ ap (λ b. b || any_of tree) (ap test e_is ∙ is))
      (λ other.
      let later = in_part p tree (sym (ap (λ b. is_some (cond b (Some e.1) (node_at tree p))) other) ∙ there_) under is in
      elim (is_under e.0 source) as (λ b. list_any (λ e. test e.0) (cond b (e ∷ part tree source) (part tree source)) ≡ true) [ true ↦ or_right _ _ later | false ↦ later ])
      (cases_Bool (same_path p e.0))

  from_part : (R : Type 0) (tree : Content) → any_of tree ≡ true → ((p : List (List ℕ)) → IsSome (node_at tree p) → is_under p source ≡ true → test p ≡ true → R) → R
  from_part R [] is h = absurd (false≢true is)
  from_part R (e ∷ tree) is h =
      let rest : any_of tree ≡ true → R = λ more. from_part R tree more (λ p there_ under tested. h p (kept p there_) under tested) in
      ⊎_elim
      (λ under.
      let now : (test e.0 || any_of tree) ≡ true = sym (ap (λ b. list_any (λ e. test e.0) (cond b (e ∷ part tree source) (part tree source))) under) ∙ is in
      ⊎_elim
      (λ tested. h e.0 (ap (λ b. is_some (cond b (Some e.1) (node_at tree e.0))) (same_path_self e.0)) under tested)
      (λ not_it. rest (sym (ap (λ b. b || any_of tree) not_it) ∙ now))
      (cases_Bool (test e.0)))
      (λ apart. rest (sym (ap (λ b. list_any (λ e. test e.0) (cond b (e ∷ part tree source) (part tree source))) apart) ∙ is))
      (cases_Bool (is_under e.0 source))
    where
      kept : (p : List (List ℕ)) → IsSome (node_at tree p) → is_some (cond (same_path p e.0) (Some e.1) (node_at tree p)) ≡ true
      kept p there_ = elim (same_path p e.0) as (λ b. is_some (cond b (Some e.1) (node_at tree p)) ≡ true) [ true ↦ refl | false ↦ there_ ]

  in_paths : (p : List (List ℕ)) (paths : List (List (List ℕ))) → list_any (same_path p) paths ≡ true → test p ≡ true → list_any test paths ≡ true
  in_paths p [] found is = absurd (false≢true found)
  in_paths p (x ∷ paths) found is =
      ⊎_elim
      (λ same. ap (λ b. b || list_any test paths) (ap test (sym (path_from_same p x same)) ∙ is))
      (λ other. or_right _ _ (in_paths p paths (sym (ap (λ b. b || list_any (same_path p) paths) other) ∙ found) is))
      (cases_Bool (same_path p x))

  from_paths : (R : Type 0) (paths : List (List (List ℕ))) → list_any test paths ≡ true → ((p : List (List ℕ)) → list_any (same_path p) paths ≡ true → test p ≡ true → R) → R
  from_paths R [] is h = absurd (false≢true is)
  from_paths R (x ∷ paths) is h =
      ⊎_elim
      (λ tested. h x (ap (λ b. b || list_any (same_path x) paths) (same_path_self x)) tested)
      (λ not_it. from_paths R paths (sym (ap (λ b. b || list_any test paths) not_it) ∙ is) (λ p found tested. h p (or_right _ _ found) tested))
      (cases_Bool (test x))

  pub any_same : (tree : Content) (paths : List (List (List ℕ))) → ((p : List (List ℕ)) → list_any (same_path p) paths ≡ (is_some (node_at tree p) && is_under p source)) → list_any test paths ≡ any_of tree
  any_same tree paths all =
      ⊎_elim
      (λ is. is ∙ sym (from_paths _ paths is (λ p found tested.
      let parts = and_parts (is_some (node_at tree p)) (is_under p source) (sym (all p) ∙ found) in
      in_part p tree parts.0 parts.1 tested)))
      (λ none. none ∙ sym (false_from_ne_true _ (λ is. true≢false (sym (from_part _ tree is (λ p there_ under tested.
      in_paths p paths (all p ∙ ap (λ b. b && is_under p source) there_ ∙ under) tested)) ∙ none))))
      (cases_Bool (list_any test paths))

apart_from_none : (entries : PatchEntries) (p : List (List ℕ)) → entry_at entries p ≡ None → AllByRecursion (λ y. same_path p y ≡ false) (keys_of entries)
apart_from_none [] p none = tt
apart_from_none (e ∷ entries) p none =
    ⊎_elim
    (λ same. absurd (false≢true (sym (ap is_some none) ∙ ap (λ b. is_some (cond b (Some e.1) (entry_at entries p))) same)))
    (λ other. (other, apart_from_none entries p (sym (ap (λ b. cond b (Some e.1) (entry_at entries p)) other) ∙ none)))
    (cases_Bool (same_path p e.0))

distinct_none : {K : Type 0} (eq : K → K → Bool) → IsDistinct eq []
unfolding IsDistinct
distinct_none eq = tt

-- each path at the target is one of one at the source
distinct_there : (source target : List (List ℕ)) (tree : Content) → IsDistinct (eq_by_cmp by_path) (keys_of tree) → IsDistinct (eq_by_cmp by_path) (keys_of (part_there tree source target))
distinct_there source target [] once = distinct_none _
distinct_there source target (e ∷ tree) once =
    let laws = eq_by_cmp_equiv by_path_total in
    let rest = distinct_there source target tree (IsDistinct-tail (eq_by_cmp by_path) e.0 (keys_of tree) once) in
    let later : node_at tree e.0 ≡ None = lookup-none (same_path e.0) tree (none_past_head laws e.0 e tree once (laws.refl e.0)) in
    elim (is_under e.0 source) as (λ b. is_under e.0 source ≡ b → IsDistinct (eq_by_cmp by_path) (keys_of (map (λ e. (path_there source target e.0, patch_node.Node e.1)) (cond b (e ∷ part tree source) (part tree source))))) [
      | true ↦ λ under.
          let back = there-back target source e.0 under in
          let none : entry_at (part_there tree source target) (path_there source target e.0) ≡ None =
          entry_at-part_there source target (path_there source target e.0) tree
          ∙ ap (λ b. cond b (option_map patch_node.Node (node_at tree (path_there target source (path_there source target e.0)))) None) (under_there source target e.0)
          ∙ ap (λ p. option_map patch_node.Node (node_at tree p)) back ∙ ap (option_map patch_node.Node) later in
          IsDistinct-cons (eq_by_cmp by_path) (path_there source target e.0) (keys_of (part_there tree source target)) (apart_from_none (part_there tree source target) (path_there source target e.0) none) rest
      | false ↦ λ apart. rest
    ] refl

pub once_there : (source target : List (List ℕ)) (tree : Content) → IsStrictlySortedBy by_path (keys_of tree) → IsDistinct (eq_by_cmp by_path) (keys_of (part_there tree source target))
once_there source target tree sorted = distinct_there source target tree (IsDistinct-from_sorted by_path _ sorted)

-- entries with the look-ups of the part are as many
pub length-entries : (source target : List (List ℕ)) (tree : Content) (entries : PatchEntries) → IsStrictlySortedBy by_path (keys_of tree) → IsDistinct (eq_by_cmp by_path) (keys_of entries) → ((q : List (List ℕ)) → entry_at entries q ≡ entry_at (part_there tree source target) q)
    → length entries ≡ length (part tree source)
length-entries source target tree entries sorted once alike =
    sym (length-in_order by_path by_path_total entries once)
    ∙ ap length (in_order-same by_path by_path_total exact_paths (part_there tree source target) entries alike)
    ∙ length-in_order by_path by_path_total (part_there tree source target) (once_there source target tree sorted)
    ∙ length-map (part tree source) _

inserted : (tree : Content) (path : List (List ℕ)) (node : Node) → length (insert_entry by_path tree path node) ≤ length tree + 1
inserted [] path node = omega arith
inserted (e ∷ tree) path node =
    let rest = inserted tree path node in
    elim (by_path path e.0) as (λ o. length (match_ordering o ((path, node) ∷ e ∷ tree) ((e.0, node) ∷ tree) (e ∷ insert_entry by_path tree path node)) ≤ length (e ∷ tree) + 1) [
      | Less ↦ omega arith
      | Equal ↦ omega arith
      | Greater ↦ omega (arith, rest)
    ]

taken : (path : List (List ℕ)) (tree : Content) → length (remove_entry (same_path path) tree) ≤ length tree
taken path [] = omega arith
taken path (e ∷ tree) =
    let rest = taken path tree in
    elim (same_path path e.0) as (λ b. length (cond b tree (e ∷ remove_entry (same_path path) tree)) ≤ length (e ∷ tree)) [ true ↦ omega arith | false ↦ omega (arith, rest) ]

length-over : (tree : Content) (path : List (List ℕ)) (entry : PatchNode) → length (over tree path entry) ≤ length tree + 1
length-over tree path (patch_node.Node node) = inserted tree path node
length-over tree path patch_node.Gone = let less = taken path tree in omega (arith, less)

pub length-patching : (tree : Content) (entries : PatchEntries) → length (patching tree entries) ≤ length tree + length entries
length-patching tree [] = omega arith
length-patching tree (r ∷ entries) =
    let rest = length-patching (over tree r.0 r.1) entries in
    let one = length-over tree r.0 r.1 in
    omega (arith, rest, one)
