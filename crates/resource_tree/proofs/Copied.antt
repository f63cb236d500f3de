-- The content with a copy in it: by look-ups, and good.
use Rattle.std.proofs.Common.{◌≡◌, ◌≢◌, ◌+◌, ◌≤◌, ◌||◌, ◌==◌, ℕ, true, false, cond, not, List, [], length, refl, sym, ◌∙◌, ap, subst, Some, None, Option, ⊎_elim, arith}
use Rattle.std.specs.Prelude.{is_some, is_none, IsSome, IsTrue, option_map, unwrap_or, nat_lt}
use Rattle.std.specs.Option.{option_map_or}
use Rattle.std.specs.List.Sorted.{IsStrictlySortedBy}
use Rattle.std.specs.Map.{keys_of, set_value}
use Rattle.std.proofs.lemmas.Bool.{cases_Bool, false≢true, true≢false, false_from_ne_true, leb-true, le-leb}
use Rattle.std.proofs.lemmas.List.{length-map}
use Rattle.std.proofs.lemmas.Map.{keys-set_value}
use Rattle.sp_base.specs.Paths.{is_path, is_under}
use Rattle.sp_base.proofs.OptionLemmas.{none_from_test}
use Rattle.resource_tree.specs.declared.nodes.Node.{Node}
use Rattle.resource_tree.specs.declared.faults.TreeFault.{TreeFault}
use Rattle.resource_tree.specs.declared.faults.TreeFault.TheVariants.{TooDeep, FullTree}
use Rattle.resource_tree.specs.declared.patch.PatchNode.TheVariants as patch_node
use Rattle.resource_tree.specs.Content.{Content, IsGood, by_path, same_path, node_at, kid, prop_at, parent_of, name_of, empty_node}
use Rattle.resource_tree.specs.Changes.{change_at, with_kid, has_prop_at}
use Rattle.resource_tree.specs.Patches.{left_by}
use Rattle.resource_tree.specs.Moves.{path_there, part, part_there, copy, copy_at, is_too_deep, target_fault, part_size_fault, first_fault, copy_fault}
use Rattle.resource_tree.proofs.PathLemmas.{kid_parts, same_path_self, same_path_apart}
use Rattle.resource_tree.proofs.NodeLookups.{node_at-change_at, length-change_at}
use Rattle.resource_tree.proofs.Patching.{node_at-patching}
use Rattle.resource_tree.proofs.Creation.{no_fault, not_none, some_from, IsGood-from}
use Rattle.resource_tree.proofs.Under.{under_own_kid}
use Rattle.resource_tree.proofs.PartLemmas.{under_split, prefix}
use Rattle.resource_tree.proofs.Copying.{PutsPart, IsTree-put_part, there-back}
use Rattle.resource_tree.proofs.PartThere.{entry_at-part_there, under_there}
use Rattle.resource_tree.proofs.CopyParts.{in_part, once_there, length-patching}

-- what is known where the target is free
pub record IsFree (tree : Content) (source target : List (List ℕ)) : Type 0 where
  pub source_there : IsSome (node_at tree source)
  pub parent_there : IsSome (node_at tree (parent_of target))
  pub not_root : target ≢ []
  pub free : node_at tree target ≡ None
  pub untaken : has_prop_at tree (parent_of target) (name_of target) ≡ false

pub is_free : (tree : Content) (source target : List (List ℕ)) → target_fault tree source target ≡ None → IsFree tree source target
is_free tree source target e =
    let a = no_fault (is_none (node_at tree source)) _ _ e in
    let b = no_fault (is_none (node_at tree (parent_of target))) _ _ a.1 in
    let c = no_fault (length target == 0) _ _ b.1 in
    let d = no_fault (is_under target source || is_under source target) _ _ c.1 in
    let f = no_fault (is_some (node_at tree target)) _ _ d.1 in
    let g = no_fault (has_prop_at tree (parent_of target) (name_of target)) _ _ f.1 in
    record {
      source_there = not_none _ a.0;
      parent_there = not_none _ b.0;
      not_root = λ root. true≢false (sym (ap (λ (p : List (List ℕ)). length p == 0) root) ∙ c.0);
      free = none_from_test _ f.0;
      untaken = g.0;
    }

not_more : (n : ℕ) → n ≤ 200000 → nat_lt 200000 n ≡ false
not_more n small = false_from_ne_true _ (λ is. let large : 200001 ≤ n = leb-true 200001 n is in omega (arith, large, small))

more : (n : ℕ) → 200001 ≤ n → nat_lt 200000 n ≡ true
more n large = le-leb 200001 n large

pub part_fits : (tree : Content) (source target : List (List ℕ)) → is_too_deep tree source target ≡ false → length tree + length (part tree source) ≤ 200000 → part_size_fault tree source target ≡ None
part_fits tree source target fits small =
    ap (λ b. cond b (Some TooDeep) (cond (nat_lt 200000 (length tree + length (part tree source))) (Some FullTree) None)) fits ∙ ap (λ b. cond b (Some FullTree) None) (not_more _ small)

pub part_too_deep : (tree : Content) (source target : List (List ℕ)) → is_too_deep tree source target ≡ true → part_size_fault tree source target ≡ Some TooDeep
part_too_deep tree source target deep = ap (λ b. cond b (Some TooDeep) (cond (nat_lt 200000 (length tree + length (part tree source))) (Some FullTree) None)) deep

pub part_too_many : (tree : Content) (source target : List (List ℕ)) → is_too_deep tree source target ≡ false → 200001 ≤ length tree + length (part tree source) → part_size_fault tree source target ≡ Some FullTree
part_too_many tree source target fits large =
    ap (λ b. cond b (Some TooDeep) (cond (nat_lt 200000 (length tree + length (part tree source))) (Some FullTree) None)) fits ∙ ap (λ b. cond b (Some FullTree) None) (more _ large)

pub no_first : (one other : Option TreeFault) → first_fault one other ≡ None → one ≡ None
no_first None other none = refl
no_first (Some fault) other none = absurd (false≢true (sym (ap is_some none)))

pub copy_fault_is : (tree : Content) (source target : List (List ℕ)) → target_fault tree source target ≡ None → copy_fault tree source target ≡ part_size_fault tree source target
copy_fault_is tree source target free = ap (λ f. first_fault f (part_size_fault tree source target)) free

pub allowed : (tree : Content) (source target : List (List ℕ)) → target_fault tree source target ≡ None → is_too_deep tree source target ≡ false → length tree + length (part tree source) ≤ 200000 → copy_fault tree source target ≡ None
allowed tree source target free fits small = copy_fault_is tree source target free ∙ part_fits tree source target fits small

pub too_deep : (tree : Content) (source target : List (List ℕ)) → target_fault tree source target ≡ None → is_too_deep tree source target ≡ true → copy_fault tree source target ≡ Some TooDeep
too_deep tree source target free deep = copy_fault_is tree source target free ∙ part_too_deep tree source target deep

pub too_many : (tree : Content) (source target : List (List ℕ)) → target_fault tree source target ≡ None → is_too_deep tree source target ≡ false → 200001 ≤ length tree + length (part tree source) → copy_fault tree source target ≡ Some FullTree
too_many tree source target free fits large = copy_fault_is tree source target free ∙ part_too_many tree source target fits large

pub sorted-change_at : (tree : Content) (path : List (List ℕ)) (change : Node → Node) → IsStrictlySortedBy by_path (keys_of tree) → IsStrictlySortedBy by_path (keys_of (change_at tree path change))
sorted-change_at tree path change sorted =
    elim (node_at tree path) as (λ o. IsStrictlySortedBy by_path (keys_of (option_map_or (λ node. set_value (same_path path) tree (change node)) o tree))) [
      | None ↦ sorted
      | Some node ↦ subst (λ (ks : List (List (List ℕ))). IsStrictlySortedBy by_path ks) (sym (keys-set_value (same_path path) tree (change node))) sorted
    ]

pub left_none : (o : Option Node) → left_by (option_map patch_node.Node o) None ≡ o
left_none None = refl
left_none (Some n) = refl

module _ (tree : Content) (source target : List (List ℕ)) (good : IsGood tree) (can : IsFree tree source target) where
  pub parts : kid (parent_of target) (name_of target) ≡ target
  parts = kid_parts target can.not_root

  abbrev above : Node
  above = unwrap_or (node_at tree (parent_of target)) empty_node

  above_is : node_at tree (parent_of target) ≡ Some above
  above_is = some_from _ empty_node can.parent_there

  pub free_below : (q : List (List ℕ)) → is_under q target ≡ true → node_at tree q ≡ None
  free_below q under =
      let split = under_split target q under in
      none_from_test _ (false_from_ne_true _ (λ there_. false≢true (sym (ap is_some can.free) ∙ prefix tree good.shape target split.rest (ap (λ p. is_some (node_at tree p)) split.whole ∙ there_))))

  pub parent_apart : (q : List (List ℕ)) → is_under q target ≡ true → same_path (parent_of target) q ≡ false
  parent_apart q under =
      same_path_apart (parent_of target) q (λ e. true≢false (sym under ∙ ap (λ p. is_under p target) (sym e) ∙ ap (is_under (parent_of target)) (sym parts) ∙ under_own_kid (parent_of target) (name_of target)))

  abbrev named : Content
  named = change_at tree (parent_of target) (with_kid (name_of target))

  pub node_at-copy : (q : List (List ℕ)) → node_at (copy tree source target) q ≡ copy_at tree source target q
  node_at-copy q =
      node_at-patching named (part_there tree source target) q (sorted-change_at tree (parent_of target) (with_kid (name_of target)) good.ordered) (once_there source target tree good.ordered)
      ∙ ap (λ r. left_by r (node_at named q)) (entry_at-part_there source target q tree)
      ∙ ap (λ o. left_by (cond (is_under q target) (option_map patch_node.Node (node_at tree (path_there target source q))) None) o) (node_at-change_at tree (parent_of target) (with_kid (name_of target)) q)
      ∙ ⊎_elim
      (λ under. let apart = parent_apart q under in let free = free_below q under in rw (under, apart, free) (left_none (node_at tree (path_there target source q))))
      (λ beside. rw beside)
      (cases_Bool (is_under q target))

  module _ (fits : is_too_deep tree source target ≡ false) where
    pub is_a_path : (q : List (List ℕ)) → is_under q target ≡ true → IsSome (node_at tree (path_there target source q)) → IsTrue (is_path q)
    is_a_path q under there_ =
        ⊎_elim (λ is. is)
        (λ none. absurd (true≢false (sym (in_part source (λ p. not (is_path (path_there source target p))) (path_there target source q) tree there_ (under_there target source q) (ap not (ap is_path (there-back source target q under) ∙ none))) ∙ fits)))
        (cases_Bool (is_path q))

    below : (q : List (List ℕ)) → is_under q target ≡ true → node_at (copy tree source target) q ≡ node_at tree (path_there target source q)
    below q under = node_at-copy q ∙ (rw under)

    beside : (q : List (List ℕ)) → is_under q target ≡ false → q ≢ parent_of target → node_at (copy tree source target) q ≡ node_at tree q
    beside q apart other = node_at-copy q ∙ (let elsewhere = same_path_apart (parent_of target) q (λ e. other (sym e)) in rw (apart, elsewhere))

    puts : PutsPart (node_at tree) (node_at tree) (node_at (copy tree source target)) source (parent_of target) (name_of target) above
    puts = record {
      part = can.source_there;
      fits = subst (λ (p : List (List ℕ)). (q : List (List ℕ)) → is_under q p ≡ true → IsSome (node_at tree (path_there p source q)) → IsTrue (is_path q)) (sym parts) is_a_path;
      was = above_is;
      free = ap (node_at tree) parts ∙ can.free;
      untaken = none_from_test _ (sym (ap (λ o. option_map_or (λ node. is_some (prop_at node (name_of target))) o false) above_is) ∙ can.untaken);
      there = node_at-copy (parent_of target)
          ∙ (let apart = ap (is_under (parent_of target)) (sym parts) ∙ under_own_kid (parent_of target) (name_of target) in let self = same_path_self (parent_of target) in rw (apart, self, above_is));
      below = subst (λ (p : List (List ℕ)). (q : List (List ℕ)) → is_under q p ≡ true → node_at (copy tree source target) q ≡ node_at tree (path_there p source q)) (sym parts) below;
      others = subst (λ (p : List (List ℕ)). (q : List (List ℕ)) → is_under q p ≡ false → q ≢ parent_of target → node_at (copy tree source target) q ≡ node_at tree q) (sym parts) beside;
    }

    -- the content with the copy is good
    pub IsGood-copy : (new : Content) → new ≡ copy tree source target → IsStrictlySortedBy by_path (keys_of new) → length tree + length (part tree source) ≤ 200000 → IsGood new
    IsGood-copy new same sorted small =
        let one = length-patching named (part_there tree source target) in
        let two = length-change_at tree (parent_of target) (with_kid (name_of target)) in
        let three : length (part_there tree source target) ≡ length (part tree source) = length-map (part tree source) _ in
        IsGood-from new (copy tree source target) same sorted (omega (arith, one, two, three, small)) (IsTree-put_part (node_at tree) (node_at tree) (node_at (copy tree source target)) source (parent_of target) (name_of target) above good.shape good.shape puts)
