-- The content with a part of it at another path: by look-ups, and good.
use Rattle.std.proofs.Common.{◌≡◌, ◌≢◌, ◌+◌, ◌||◌, ◌==◌, ℕ, Bool, true, false, cond, not, List, [], length, refl, sym, ◌∙◌, ap, subst, Some, None, Option, ⊎_elim, arith}
use Rattle.std.specs.Prelude.{is_some, is_none, IsSome, IsTrue, option_map, unwrap_or, filter}
use Rattle.std.specs.Option.{option_map_or}
use Rattle.std.specs.List.Sorted.{IsStrictlySortedBy}
use Rattle.std.specs.Map.{keys_of, set_value}
use Rattle.std.proofs.lemmas.Bool.{cases_Bool, true≢false, false_from_ne_true, or_parts}
use Rattle.std.proofs.lemmas.List.{length-map}
use Rattle.std.proofs.lemmas.List.Filters.{length-filter_both}
use Rattle.std.proofs.lemmas.List.Kept.{IsStrictlySortedBy-filter}
use Rattle.std.proofs.lemmas.Map.{keys-set_value}
use Rattle.sp_base.specs.Paths.{is_path, is_under}
use Rattle.sp_base.proofs.OptionLemmas.{none_from_test}
use Rattle.resource_tree.specs.declared.nodes.Node.{Node}
use Rattle.resource_tree.specs.declared.faults.TreeFault.TheVariants.{TooDeep}
use Rattle.resource_tree.specs.declared.patch.PatchNode.TheVariants as patch_node
use Rattle.resource_tree.specs.Content.{Content, IsGood, by_path, same_path, node_at, kid, prop_at, parent_of, name_of, empty_node}
use Rattle.resource_tree.specs.Changes.{change_at, with_kid, without_kid, has_prop_at, removal, removal_at}
use Rattle.resource_tree.specs.Patches.{left_by}
use Rattle.resource_tree.specs.Moves.{path_there, part, part_there, is_too_deep, first_fault, ends_fault, move_fault, relocation, relocation_at}
use Rattle.resource_tree.proofs.PathLemmas.{same_path_self, same_path_apart}
use Rattle.resource_tree.proofs.NodeLookups.{node_at-change_at, length-change_at}
use Rattle.resource_tree.proofs.Patching.{node_at-patching, sorted-patching}
use Rattle.resource_tree.proofs.Creation.{no_fault, some_from, IsGood-from}
use Rattle.resource_tree.proofs.Removal.{node_at-removal, IsTree-removal}
use Rattle.resource_tree.proofs.Under.{under_kid, under_own_kid, under_self}
use Rattle.resource_tree.proofs.Without.{keys_of-filter}
use Rattle.resource_tree.proofs.Copying.{PutsPart, IsTree-put_part}
use Rattle.resource_tree.proofs.PartThere.{entry_at-part_there}
use Rattle.resource_tree.proofs.CopyParts.{once_there, length-patching}
use Rattle.resource_tree.proofs.Copied.{IsFree, is_free, sorted-change_at, left_none, parts, free_below, parent_apart, is_a_path}

-- what is known where a node may go to the target
pub record MayGo (tree : Content) (source target : List (List ℕ)) : Type 0 where
  pub free : IsFree tree source target
  pub source_not_root : source ≢ []
  pub not_below : is_under target source ≡ false
  pub not_above : is_under source target ≡ false

pub may_go : (tree : Content) (source target : List (List ℕ)) → ends_fault tree source target ≡ None → MayGo tree source target
may_go tree source target e =
    let a = no_fault (is_none (node_at tree source)) _ _ e in
    let b = no_fault (is_none (node_at tree (parent_of target))) _ _ a.1 in
    let root = no_fault (length source == 0) _ _ b.1 in
    let c = no_fault (is_none (node_at tree source)) _ _ root.1 in
    let d = no_fault (is_none (node_at tree (parent_of target))) _ _ c.1 in
    let f = no_fault (length target == 0) _ _ d.1 in
    let g = no_fault (is_under target source || is_under source target) _ _ f.1 in
    let beside = or_parts (is_under target source) (is_under source target) g.0 in
    record {
      free = is_free tree source target root.1;
      source_not_root = λ is. true≢false (sym (ap (λ (p : List (List ℕ)). length p == 0) is) ∙ root.0);
      not_below = beside.0;
      not_above = beside.1;
    }

pub allowed : (tree : Content) (source target : List (List ℕ)) → ends_fault tree source target ≡ None → is_too_deep tree source target ≡ false → move_fault tree source target ≡ None
allowed tree source target free fits = ap (λ f. first_fault f (cond (is_too_deep tree source target) (Some TooDeep) None)) free ∙ ap (λ b. cond b (Some TooDeep) None) fits

pub too_deep : (tree : Content) (source target : List (List ℕ)) → ends_fault tree source target ≡ None → is_too_deep tree source target ≡ true → move_fault tree source target ≡ Some TooDeep
too_deep tree source target free deep = ap (λ f. first_fault f (cond (is_too_deep tree source target) (Some TooDeep) None)) free ∙ ap (λ b. cond b (Some TooDeep) None) deep

none_under : (a b : Bool) (f : Node → Node) (o : Option Node) → o ≡ None → cond a None (cond b (option_map f o) o) ≡ None
none_under true b f o e = refl
none_under false true f None e = refl
none_under false false f None e = refl
none_under false b f (Some n) e = absurd (true≢false (ap is_some e))

pub some_under : (a : Bool) (f : Node → Node) (o : Option Node) → is_some (cond a (option_map f o) o) ≡ is_some o
some_under true f None = refl
some_under true f (Some n) = refl
some_under false f o = refl

kept_props : (a : Bool) (old name : List ℕ) (o : Option Node) → option_map_or (λ node. is_some (prop_at node name)) (cond a (option_map (without_kid old) o) o) false ≡ option_map_or (λ node. is_some (prop_at node name)) o false
kept_props true old name None = refl
kept_props true old name (Some n) = refl
kept_props false old name o = refl

sorted-without : (tree : Content) (path : List (List ℕ)) → IsStrictlySortedBy by_path (keys_of tree) → IsStrictlySortedBy by_path (keys_of (filter (λ e. not (is_under e.0 path)) tree))
sorted-without tree path sorted =
    subst (λ (ks : List (List (List ℕ))). IsStrictlySortedBy by_path ks) (sym (keys_of-filter (λ p. not (is_under p path)) tree)) (IsStrictlySortedBy-filter by_path (λ p. not (is_under p path)) (keys_of tree) sorted)

keys-change_at : (tree : Content) (path : List (List ℕ)) (change : Node → Node) → keys_of (change_at tree path change) ≡ keys_of tree
keys-change_at tree path change =
    elim (node_at tree path) as (λ o. keys_of (option_map_or (λ node. set_value (same_path path) tree (change node)) o tree) ≡ keys_of tree) [
      | None ↦ refl
      | Some node ↦ keys-set_value (same_path path) tree (change node)
    ]

pub length-keys : (tree : Content) → length (keys_of tree) ≡ length tree
length-keys tree = length-map tree _

-- as many as there were
length-parts : (tree : Content) (path : List (List ℕ)) → length (removal tree path) + length (part tree path) ≡ length tree
length-parts tree path =
    let named = change_at tree (parent_of path) (without_kid (name_of path)) in
    let both = length-filter_both (λ (e : List (List ℕ) × Node). not (is_under e.0 path)) (λ e. is_under e.0 path) (λ e. twice (is_under e.0 path)) named in
    let same = length-change_at tree (parent_of path) (without_kid (name_of path)) in
    let here : length (part named path) ≡ length (part tree path) =
    sym (length-keys (part named path)) ∙ ap length (keys_of-filter (λ p. is_under p path) named) ∙ ap (λ ks. length (filter (λ p. is_under p path) ks)) (keys-change_at tree (parent_of path) (without_kid (name_of path)))
    ∙ sym (ap length (keys_of-filter (λ p. is_under p path) tree)) ∙ length-keys (part tree path) in
    omega (arith, both, same, here)
  where
    twice : (b : Bool) → b ≡ not (not b)
    twice true = refl
    twice false = refl

module _ (tree : Content) (source target : List (List ℕ)) (good : IsGood tree) (can : MayGo tree source target) where
  abbrev from : Content
  from = removal tree source

  abbrev named : Content
  named = change_at from (parent_of target) (with_kid (name_of target))

  sorted-from : IsStrictlySortedBy by_path (keys_of from)
  sorted-from = sorted-without (change_at tree (parent_of source) (without_kid (name_of source))) source (sorted-change_at tree (parent_of source) (without_kid (name_of source)) good.ordered)

  sorted-named : IsStrictlySortedBy by_path (keys_of named)
  sorted-named = sorted-change_at from (parent_of target) (with_kid (name_of target)) sorted-from

  gone_below : (q : List (List ℕ)) → is_under q target ≡ true → removal_at tree source q ≡ None
  gone_below q under = none_under (is_under q source) (same_path (parent_of source) q) (without_kid (name_of source)) (node_at tree q) (free_below tree source target good can.free q under)

  pub node_at-relocation : (q : List (List ℕ)) → node_at (relocation tree source target) q ≡ relocation_at tree source target q
  node_at-relocation q =
      node_at-patching named (part_there tree source target) q sorted-named (once_there source target tree good.ordered)
      ∙ ap (λ r. left_by r (node_at named q)) (entry_at-part_there source target q tree)
      ∙ ap (λ o. left_by (cond (is_under q target) (option_map patch_node.Node (node_at tree (path_there target source q))) None) o)
      (node_at-change_at from (parent_of target) (with_kid (name_of target)) q ∙ ap (λ o. cond (same_path (parent_of target) q) (option_map (with_kid (name_of target)) o) o) (node_at-removal tree source q))
      ∙ ⊎_elim
      (λ under. let apart = parent_apart tree source target good can.free q under in let free = gone_below q under in rw (under, apart, free) (left_none (node_at tree (path_there target source q))))
      (λ beside. rw beside)
      (cases_Bool (is_under q target))

  target_parts : kid (parent_of target) (name_of target) ≡ target
  target_parts = parts tree source target good can.free

  target_parent_apart : is_under (parent_of target) source ≡ false
  target_parent_apart =
      false_from_ne_true _ (λ is. true≢false (sym (under_kid source (parent_of target) (name_of target) is) ∙ ap (λ p. is_under p source) target_parts ∙ can.not_below))

  -- ---- the content with the part there is good

  -- the parent of the target, which doesn't name the source any more where it is the source's parent too
  abbrev above_left : Option Node
  above_left = cond (same_path (parent_of source) (parent_of target)) (option_map (without_kid (name_of source)) (node_at tree (parent_of target))) (node_at tree (parent_of target))

  there_above : is_some (node_at from (parent_of target)) ≡ true
  there_above =
      ap is_some (node_at-removal tree source (parent_of target) ∙ ap (λ u. cond u None above_left) target_parent_apart)
      ∙ some_under (same_path (parent_of source) (parent_of target)) (without_kid (name_of source)) (node_at tree (parent_of target))
      ∙ can.free.parent_there

  abbrev above : Node
  above = unwrap_or (node_at from (parent_of target)) empty_node

  above_is : node_at from (parent_of target) ≡ Some above
  above_is = some_from _ empty_node there_above

  untaken : has_prop_at from (parent_of target) (name_of target) ≡ false
  untaken =
      ap (λ o. option_map_or (λ node. is_some (prop_at node (name_of target))) o false) (node_at-removal tree source (parent_of target) ∙ ap (λ u. cond u None above_left) target_parent_apart)
      ∙ kept_props (same_path (parent_of source) (parent_of target)) (name_of source) (name_of target) (node_at tree (parent_of target))
      ∙ can.free.untaken

  below : (q : List (List ℕ)) → is_under q target ≡ true → node_at (relocation tree source target) q ≡ node_at tree (path_there target source q)
  below q under = node_at-relocation q ∙ (rw under)

  beside : (q : List (List ℕ)) → is_under q target ≡ false → q ≢ parent_of target → node_at (relocation tree source target) q ≡ node_at from q
  beside q outside other = node_at-relocation q ∙ (let elsewhere = same_path_apart (parent_of target) q (λ e. other (sym e)) in rw (outside, elsewhere)) ∙ sym (node_at-removal tree source q)

  module _ (fits : is_too_deep tree source target ≡ false) where
    puts : PutsPart (node_at tree) (node_at from) (node_at (relocation tree source target)) source (parent_of target) (name_of target) above
    puts = record {
      part = can.free.source_there;
      fits = subst (λ (p : List (List ℕ)). (q : List (List ℕ)) → is_under q p ≡ true → IsSome (node_at tree (path_there p source q)) → IsTrue (is_path q)) (sym target_parts) (is_a_path tree source target good can.free fits);
      was = above_is;
      free = ap (node_at from) target_parts ∙ node_at-removal tree source target ∙ gone_below target (under_self target);
      untaken = none_from_test _ (sym (ap (λ o. option_map_or (λ node. is_some (prop_at node (name_of target))) o false) above_is) ∙ untaken);
      there = node_at-relocation (parent_of target)
          ∙ (let outside = ap (is_under (parent_of target)) (sym target_parts) ∙ under_own_kid (parent_of target) (name_of target) in let self = same_path_self (parent_of target) in rw (outside, self) (ap (option_map (with_kid (name_of target))) (sym (node_at-removal tree source (parent_of target)) ∙ above_is)));
      below = subst (λ (p : List (List ℕ)). (q : List (List ℕ)) → is_under q p ≡ true → node_at (relocation tree source target) q ≡ node_at tree (path_there p source q)) (sym target_parts) below;
      others = subst (λ (p : List (List ℕ)). (q : List (List ℕ)) → is_under q p ≡ false → q ≢ parent_of target → node_at (relocation tree source target) q ≡ node_at from q) (sym target_parts) beside;
    }

    pub IsGood-relocation : (new : Content) → new ≡ relocation tree source target → IsGood new
    IsGood-relocation new same =
        let sorted = subst (λ (t : Content). IsStrictlySortedBy by_path (keys_of t)) (sym same) (sorted-patching named (part_there tree source target) sorted-named) in
        let one = length-patching named (part_there tree source target) in
        let two = length-change_at from (parent_of target) (with_kid (name_of target)) in
        let three : length (part_there tree source target) ≡ length (part tree source) = length-map (part tree source) _ in
        let four = length-parts tree source in
        let most = good.size in
        IsGood-from new (relocation tree source target) same sorted (omega (arith, one, two, three, four, most))
        (IsTree-put_part (node_at tree) (node_at from) (node_at (relocation tree source target)) source (parent_of target) (name_of target) above good.shape (IsTree-removal tree source good.shape (record { there = can.free.source_there; not_root = can.source_not_root })) puts)
