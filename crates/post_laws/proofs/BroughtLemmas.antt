-- A copy and a move bring what stood at the source to the goal.
use Rattle.std.proofs.Common.{◌≡◌, ◌∙◌, ap, sym, refl, subst, ℕ, List, [], ◌∷◌, ◌++◌, Option, Some, None, Bool, true, false, cond}
use Rattle.std.specs.Prelude.{◌&&◌, ◌||◌, IfOk, is_none, is_some, nat_eq}
use Rattle.std.specs.Cmp.Lexicographic.{nat_list_eq_equiv, pointwise, same_text}
use Rattle.std.proofs.lemmas.Bool.{and_parts, false_from_ne_true, or_parts, true≢false}
use Rattle.sp_base.specs.Paths.{is_under}
use Rattle.resource_tree.specs.Content.{Content, IsGood, node_at, parent_of, same_path}
use Rattle.resource_tree.specs.Changes.{fixed_fault, removal}
use Rattle.resource_tree.specs.Moves.{copy, copy_fault, ends_fault, move_fault, part_size_fault, relocation, target_fault}
use Rattle.resource_tree.proofs.PathLemmas.{same_path_apart}
use Rattle.resource_tree.proofs.Copying.{there-append}
use Rattle.resource_tree.proofs.PartThere.{under_append}
use Rattle.resource_tree.proofs.Removal.{IsGood-removal, node_at-removal}
use Rattle.resource_tree.proofs.Reordering.{can_move}
use Rattle.resource_tree.proofs.Under.{under_root}
use Rattle.resource_tree.proofs.Copied.{is_free, node_at-copy, no_first}
use Rattle.resource_tree.proofs.Relocated.{may_go, node_at-relocation}
use Rattle.post_plan.specs.declared.operation.CarryOp.{CarryOp}
use Rattle.post_apply.specs.declared.fault.ApplyFault.{ApplyFault}
use Rattle.post_apply.specs.Removals.{removal_outcome}
use Rattle.post_apply.specs.Carries.{carry_fault, carry_node, carry_outcome, ends_at_root, outcome_without_goal, replacement_outcome, unless}
use Rattle.post_apply.specs.Posting.{PostEffect}
use Rattle.post_laws.specs.Brought.{HasNoNodes, HasWhatStoodAt, CopiesBringTheirSource, CopiesLeaveTheirSource, MovesBringTheirSource, MovesEmptyTheirSource}
use Rattle.post_laws.proofs.PropertyLemmas.{parent_clear}
use Rattle.post_apply.proofs.GoodLemmas.{by_test, followed, okay, sorted-removal}
use Rattle.post_laws.proofs.StepLemmas.{unless_holds}

-- ---- faults

no_cause : (b : Bool) (fault : ApplyFault) (rest : Option ApplyFault) → cond b (Some fault) rest ≡ None → (b ≡ false) × (rest ≡ None)
no_cause true fault rest e = absurd cc
no_cause false fault rest e = (refl, e)

-- a step that begins where there is no fault
begins : (P : Content → Type 0) (fault : Option ApplyFault) (tree : Content) → (fault ≡ None → P tree) → IfOk (unless fault tree) P
begins P None tree so = so refl
begins P (Some fault) tree so = tt

-- ---- two ends of which neither is under the other

record AreBeside (from to : List (List ℕ)) : Type 0 where
  goal_out : is_under to from ≡ false
  source_out : is_under from to ≡ false

beside : (moves replaces : Bool) (tree : Content) (from to : List (List ℕ)) → carry_fault moves replaces tree from to ≡ None → AreBeside from to
beside moves replaces tree from to e =
    let a = no_cause (is_none (node_at tree from)) _ _ e in
    let b = no_cause (ends_at_root moves from to) _ _ a.1 in
    let c = no_cause (is_under to from || is_under from to) _ _ b.1 in
    let both = or_parts (is_under to from) (is_under from to) c.0 in
    record { goal_out = both.0; source_out = both.1 }

-- what is under one of them isn't under the other
apart_below : (from to rest : List (List ℕ)) → is_under to from ≡ false → is_under from to ≡ false → is_under (from ++ rest) to ≡ false
apart_below [] to rest goal source = absurd (true≢false (sym (under_root to) ∙ goal))
apart_below (a ∷ from) [] rest goal source = absurd (true≢false (sym (under_root (a ∷ from)) ∙ source))
apart_below (a ∷ from) (s ∷ to) rest goal source = false_from_ne_true _ (λ is.
    let parts = and_parts (pointwise nat_eq s a) (is_under (from ++ rest) to) is in
    let same : s ≡ a = same_text s a (sym parts.0) in
    let back : pointwise nat_eq a s ≡ true = ap (pointwise nat_eq a) same ∙ nat_list_eq_equiv.refl a in
    let one : is_under to from ≡ false = sym (ap (λ b. b && is_under to from) back) ∙ goal in
    let other : is_under from to ≡ false = sym (ap (λ b. b && is_under from to) parts.0) ∙ source in
    true≢false (sym parts.1 ∙ apart_below from to rest one other))

module _ (from to : List (List ℕ)) (apart : AreBeside from to) where
  below : (rest : List (List ℕ)) → is_under (from ++ rest) to ≡ false
  below rest = apart_below from to rest apart.goal_out apart.source_out

  no_parent : (rest : List (List ℕ)) → same_path (parent_of to) (from ++ rest) ≡ false
  no_parent rest = same_path_apart (parent_of to) (from ++ rest) (λ is.
      true≢false (sym (under_append from rest) ∙ ap (λ (p : List (List ℕ)). is_under p from) (sym is) ∙ parent_clear to from apart.goal_out))

  -- the source of a content without the goal
  abbrev Ready : Content → Content → Type 0
  Ready tree t = IsGood t × HasWhatStoodAt from tree from t

  removed_beside : (tree : Content) (rest : List (List ℕ)) → node_at (removal tree to) (from ++ rest) ≡ node_at tree (from ++ rest)
  removed_beside tree rest = let out = below rest in let other = no_parent rest in node_at-removal tree to (from ++ rest) ∙ rw (out, other) refl

  given_way : (tree : Content) → IsGood tree → IfOk (outcome_without_goal tree to) (Ready tree)
  given_way tree good =
      by_test (Ready tree) (is_some (node_at tree to)) (removal_outcome tree to) (okay tree)
      (λ _. unless_holds (Ready tree) (fixed_fault tree to) (removal tree to) (λ allowed.
      (IsGood-removal (removal tree to) tree to good (can_move tree to allowed) refl (sorted-removal tree to good.ordered), removed_beside tree)))
      (λ _. (good, λ rest. refl))

  -- ---- a copy

  copied_there : (t : Content) → IsGood t → copy_fault t from to ≡ None → HasWhatStoodAt from t to (copy t from to)
  copied_there t good allowed rest =
      let can = is_free t from to (no_first (target_fault t from to) (part_size_fault t from to) allowed) in
      let under = under_append to rest in
      node_at-copy t from to good can (to ++ rest) ∙ rw under (ap (node_at t) (there-append to from rest))

  copied_here : (t : Content) → IsGood t → copy_fault t from to ≡ None → HasWhatStoodAt from t from (copy t from to)
  copied_here t good allowed rest =
      let can = is_free t from to (no_first (target_fault t from to) (part_size_fault t from to) allowed) in
      let out = below rest in
      let other = no_parent rest in
      node_at-copy t from to good can (from ++ rest) ∙ rw (out, other) refl

  -- ---- a move

  moved_there : (t : Content) → IsGood t → move_fault t from to ≡ None → HasWhatStoodAt from t to (relocation t from to)
  moved_there t good allowed rest =
      let may = may_go t from to (no_first (ends_fault t from to) _ allowed) in
      let under = under_append to rest in
      node_at-relocation t from to good may (to ++ rest) ∙ rw under (ap (node_at t) (there-append to from rest))

  moved_away : (t : Content) → IsGood t → move_fault t from to ≡ None → HasNoNodes from (relocation t from to)
  moved_away t good allowed rest =
      let may = may_go t from to (no_first (ends_fault t from to) _ allowed) in
      let out = below rest in
      let other = no_parent rest in
      let under = under_append from rest in
      node_at-relocation t from to good may (from ++ rest) ∙ rw (out, other, under) refl

  -- the goal gives way first
  replaced : (moves : Bool) (tree : Content) (P : Content → Type 0) → IsGood tree → ((t : Content) → Ready tree t → IfOk (carry_outcome moves from to t) P) → IfOk (replacement_outcome moves from to tree) P
  replaced moves tree P good next = followed (Ready tree) P (outcome_without_goal tree to) (carry_outcome moves from to) (given_way tree good) next

-- a node that is carried, once its ends are beside one another
carried : (moves : Bool) (op : CarryOp) (tree : Content) (P : Content → Type 0) → IsGood tree
    → ((apart : AreBeside op.from op.to) → (t : Content) → Ready op.from op.to apart tree t → IfOk (carry_outcome moves op.from op.to t) P) → IfOk (carry_node moves op.replace op.from op.to tree) P
carried moves op tree P good next =
    let fault = carry_fault moves op.replace tree op.from op.to in
    followed (λ (t : Content). (t ≡ tree) × AreBeside op.from op.to) P (unless fault tree) (replacement_outcome moves op.from op.to)
    (begins (λ (t : Content). (t ≡ tree) × AreBeside op.from op.to) fault tree (λ e. (refl, beside moves op.replace tree op.from op.to e)))
    (λ t x. subst (λ (u : Content). IfOk (replacement_outcome moves op.from op.to u) P) (sym x.0) (replaced op.from op.to x.1 moves tree P good (next x.1)))

pub copy_brings : CopiesBringTheirSource
copy_brings op tree good =
    let P : Content → Type 0 = HasWhatStoodAt op.from tree op.to in
    followed P (λ (done : PostEffect). P done.content) (carry_node false op.replace op.from op.to tree) _
    (carried false op tree P good (λ apart t ready. unless_holds P (copy_fault t op.from op.to) (copy t op.from op.to) (λ allowed rest. copied_there op.from op.to apart t ready.0 allowed rest ∙ ready.1 rest)))
    (λ t h. h)

pub copy_leaves : CopiesLeaveTheirSource
copy_leaves op tree good =
    let P : Content → Type 0 = HasWhatStoodAt op.from tree op.from in
    followed P (λ (done : PostEffect). P done.content) (carry_node false op.replace op.from op.to tree) _
    (carried false op tree P good (λ apart t ready. unless_holds P (copy_fault t op.from op.to) (copy t op.from op.to) (λ allowed rest. copied_here op.from op.to apart t ready.0 allowed rest ∙ ready.1 rest)))
    (λ t h. h)

pub move_brings : MovesBringTheirSource
move_brings op tree good =
    let P : Content → Type 0 = HasWhatStoodAt op.from tree op.to in
    followed P (λ (done : PostEffect). P done.content) (carry_node true op.replace op.from op.to tree) _
    (carried true op tree P good (λ apart t ready. unless_holds P (move_fault t op.from op.to) (relocation t op.from op.to) (λ allowed rest. moved_there op.from op.to apart t ready.0 allowed rest ∙ ready.1 rest)))
    (λ t h. h)

pub move_empties : MovesEmptyTheirSource
move_empties op tree good =
    let P : Content → Type 0 = HasNoNodes op.from in
    followed P (λ (done : PostEffect). P done.content) (carry_node true op.replace op.from op.to tree) _
    (carried true op tree P good (λ apart t ready. unless_holds P (move_fault t op.from op.to) (relocation t op.from op.to) (λ allowed. moved_away op.from op.to apart t ready.0 allowed)))
    (λ t h. h)
