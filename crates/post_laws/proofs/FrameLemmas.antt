-- A path that is apart from all places of an operation is as before, since each step leaves it so.
use Rattle.std.proofs.Common.{◌≡◌, ap, sym, refl, subst, ℕ, List, [], ◌∷◌, ◌++◌, map, Option, Some, None, true, false}
use Rattle.std.specs.Prelude.{IfOk}
use Rattle.std.proofs.lemmas.Bool.{false≢true}
use Rattle.sp_base.specs.Outcomes.{◌>>=◌}
use Rattle.sp_base.specs.Paths.{path_or_none}
use Rattle.sp_base.specs.declared.value.Value.{Value}
use Rattle.resource_tree.specs.Content.{Content, IsGood, kid, name_of}
use Rattle.post_plan.specs.declared.spot.Spot.{Spot}
use Rattle.post_plan.specs.declared.spot.Carry.{Carry}
use Rattle.post_plan.specs.declared.operation.CarryOp.{CarryOp}
use Rattle.post_plan.specs.declared.operation.ModifyOp.{ModifyOp}
use Rattle.post_plan.specs.declared.operation.NameWish.{NameWish}
use Rattle.post_plan.specs.declared.operation.PropSet.{PropSet}
use Rattle.post_plan.specs.declared.operation.Op.{Op}
use Rattle.post_plan.specs.declared.operation.Op.TheVariants.{Nop, Delete, Copy, Move, Modify}
use Rattle.post_plan.specs.Spots.{full_path}
use Rattle.post_apply.specs.Steps.{ApplyOutcome, in_turn, or_too_deep, path_of_spot, with_way}
use Rattle.post_apply.specs.Removals.{delete_at, deletion_outcome, removal_outcome}
use Rattle.post_apply.specs.Values.{named_outcome, put_on_way, set_at, hinted_value}
use Rattle.post_apply.specs.Carries.{bring, carry_at, carry_node}
use Rattle.post_apply.specs.Names.{name_given}
use Rattle.post_apply.specs.Posting.{PostEffect, PostedNode, carry, modify_outcome, modify, modify_at, post_outcome, remove, posted_node, posted_node_of}
use Rattle.post_apply.proofs.GoodLemmas.{followed, okay}
use Rattle.post_laws.specs.Laws.{IsAsBefore, LeavesWhatIsApart}
use Rattle.post_laws.specs.Places.{IsApart, IsApartFrom, goal_path, places_named, set_path, source_path}
use Rattle.post_laws.proofs.StepLemmas.{all_both, all_of_map, all_split, any_is, deep_is, for_each, full_spot, weaker, when}
use Rattle.post_laws.proofs.ApartLemmas.{Keeps, Stays, chained, kept_bring, kept_carry_node, kept_deleted, kept_on_way, kept_placed, kept_removed, kept_way, turns}

module _ (tree : Content) (q : List (List ℕ)) (good : IsGood tree) where
  abbrev Remains : Content → Type 0
  Remains t = Stays tree q t

  abbrev Leaves : ApplyOutcome Content → Type 0
  Leaves o = Keeps tree q o

  abbrev Clear : List (List ℕ) → Type 0
  Clear place = IsApart tree q place

  -- a step at a spot that is apart
  at_spot : (node : List (List ℕ)) (spot : Spot) (f : List (List ℕ) → ApplyOutcome Content) → Clear (full_path node spot)
      → ((path : List (List ℕ)) → Clear path → Leaves (f path)) → Leaves (path_of_spot node spot >>= f)
  at_spot node spot f clear next =
      followed (λ (p : List (List ℕ)). p ≡ full_path node spot) Remains (path_of_spot node spot) f (full_spot node spot) (λ path is. next path (subst Clear (sym is) clear))

  delete_step : (node : List (List ℕ)) (t : Content) (spot : Spot) → Clear (full_path node spot) → Remains t → Leaves (delete_at node t spot)
  delete_step node t spot clear stays = at_spot node spot (deletion_outcome t) clear (λ path free. kept_deleted tree q t path free stays)

  set_step : (node : List (List ℕ)) (t : Content) (set : PropSet) → Clear (set_path node set) → Remains t → Leaves (set_at node t set)
  set_step node t set clear stays =
      followed (λ (v : Value). v ≡ v) Remains (named_outcome (name_of set.spot.path) (hinted_value set.hint set.words)) (λ value. path_of_spot node set.spot >>= λ path. put_on_way t path value) (any_is _) (λ value _.
      at_spot node set.spot (λ path. put_on_way t path value) clear (λ path free. kept_on_way tree q good t path value free stays))

  move_step : (node : List (List ℕ)) (t : Content) (carry : Carry) → Clear (source_path node carry) × Clear (goal_path node carry) → Remains t → Leaves (carry_at true node t carry)
  move_step node t carry clear stays =
      at_spot node carry.to (λ to. path_of_spot node carry.from >>= λ from. bring true from to t) clear.1 (λ to goal.
      at_spot node carry.from (λ from. bring true from to t) clear.0 (λ from source. kept_bring tree q good true from to t (λ _. source) goal stays))

  copy_step : (node : List (List ℕ)) (t : Content) (carry : Carry) → Clear (goal_path node carry) → Remains t → Leaves (carry_at false node t carry)
  copy_step node t carry clear stays =
      at_spot node carry.to (λ to. path_of_spot node carry.from >>= λ from. bring false from to t) clear (λ to goal.
      followed (λ (p : List (List ℕ)). p ≡ p) Remains (path_of_spot node carry.from) (λ from. bring false from to t) (any_is _) (λ from _.
      kept_bring tree q good false from to t (λ e. absurd (false≢true e)) goal stays))

  -- ---- a change of a node

  change_kept : (op : ModifyOp) (at : PostedNode) → IsApartFrom tree q (places_named at.node (Modify op)) → Remains at.content → Leaves (modify_outcome op at)
  change_kept op at apart stays =
      let node = at.node in
      let one = all_split Clear (map (full_path node) op.deletes) _ apart.1 in
      let two = all_split Clear (map (source_path node) op.moves) _ one.1 in
      let three = all_split Clear (map (goal_path node) op.moves) _ two.1 in
      let four = all_split Clear (map (goal_path node) op.copies) (map (set_path node) op.sets) three.1 in
      let deletes = all_of_map Clear (full_path node) op.deletes one.0 in
      let moves = all_both (λ (c : Carry). Clear (source_path node c)) (λ (c : Carry). Clear (goal_path node c)) op.moves (all_of_map Clear (source_path node) op.moves two.0) (all_of_map Clear (goal_path node) op.moves three.0) in
      let copies = all_of_map Clear (goal_path node) op.copies four.0 in
      let sets = all_of_map Clear (set_path node) op.sets four.1 in
      chained tree q (with_way node at.content) _ (kept_way tree q good node node [] (sym (append_nil node)) apart.0 at.content stays) (λ made a.
      chained tree q (in_turn (delete_at node) op.deletes made) _ (turns tree q (delete_at node) (λ (s : Spot). Clear (full_path node s)) (delete_step node) op.deletes made deletes a) (λ less b.
      chained tree q (in_turn (carry_at true node) op.moves less) _ (turns tree q (carry_at true node) (λ (c : Carry). Clear (source_path node c) × Clear (goal_path node c)) (move_step node) op.moves less moves b) (λ moved c.
      chained tree q (in_turn (carry_at false node) op.copies moved) _ (turns tree q (carry_at false node) (λ (c : Carry). Clear (goal_path node c)) (copy_step node) op.copies moved copies c) (λ copied d.
      chained tree q (in_turn (set_at node) op.sets copied) _ (turns tree q (set_at node) (λ (s : PropSet). Clear (set_path node s)) (set_step node) op.sets copied sets d) (λ valued e.
      kept_placed tree q node op.place valued apart.0 e)))))
    where
      append_nil : (xs : List (List ℕ)) → xs ++ [] ≡ xs
      append_nil [] = refl
      append_nil (s ∷ xs) = ap (λ (p : List (List ℕ)). s ∷ p) (append_nil xs)

  -- where the node is apart, the path is as before once the parent of a new one is there
  abbrev Begins : PostedNode → Type 0
  Begins at = Clear at.node → Remains at.content

  begun : (target : List (List ℕ)) (fresh : Option NameWish) → IfOk (posted_node_of target fresh tree) Begins
  begun target None = λ _. (refl, λ name there_. there_)
  begun target (Some wish) =
      let Above : List ℕ → Content → Type 0 = λ (name : List ℕ) (t : Content). Clear (kid target name) → Remains t in
      followed (λ (t : Content). (name : List ℕ) → Above name t) Begins (with_way target tree) (λ above. or_too_deep (path_or_none (kid target (name_given above target wish))) >>= λ path. okay (posted_node above path))
      (for_each Above (with_way target tree) (λ name. when Remains (Clear (kid target name)) (with_way target tree) (λ clear.
      kept_way tree q good (kid target name) target (name ∷ []) refl clear tree (refl, λ n there_. there_))))
      (λ above is.
      let made : List (List ℕ) = kid target (name_given above target wish) in
      followed (λ (p : List (List ℕ)). p ≡ made) Begins (or_too_deep (path_or_none made)) (λ path. okay (posted_node above path)) (deep_is made)
      (λ path whole clear. is (name_given above target wish) (subst Clear whole clear)))

  -- ---- the operations

  -- where the operation is apart from the path, it is as before
  abbrev Untouched : Op → PostEffect → Type 0
  Untouched op done = LeavesWhatIsApart op tree q done

  just_same : (o : ApplyOutcome Content) → Leaves o → IfOk o (IsAsBefore tree q)
  just_same o stays = weaker Remains (IsAsBefore tree q) o (λ t s. s.0) stays

  by_modify : (op : ModifyOp) → IfOk (modify op tree) (Untouched (Modify op))
  by_modify op =
      followed Begins (Untouched (Modify op)) (posted_node_of op.target op.fresh tree) (modify_at op) (begun op.target op.fresh) (λ at is.
      let Free : Type 0 = IsApartFrom tree q (places_named at.node (Modify op)) in
      followed (λ (t : Content). Free → IsAsBefore tree q t) (Untouched (Modify op)) (modify_outcome op at) _
      (when (IsAsBefore tree q) Free (modify_outcome op at) (λ free. just_same (modify_outcome op at) (change_kept op at free (is free.0))))
      (λ t h. h))

  by_remove : (path : List (List ℕ)) → IfOk (remove path tree) (Untouched (Delete path))
  by_remove path =
      let Free : Type 0 = IsApartFrom tree q (places_named path (Delete path)) in
      followed (λ (t : Content). Free → IsAsBefore tree q t) (Untouched (Delete path)) (removal_outcome tree path) _
      (when (IsAsBefore tree q) Free (removal_outcome tree path) (λ free. just_same (removal_outcome tree path) (kept_removed tree q tree path free.0 (refl, λ n there_. there_))))
      (λ t h. h)

  by_copy : (op : CarryOp) → IfOk (carry false op tree) (Untouched (Copy op))
  by_copy op =
      let Free : Type 0 = IsApartFrom tree q (places_named op.to (Copy op)) in
      let there = carry_node false op.replace op.from op.to tree in
      followed (λ (t : Content). Free → IsAsBefore tree q t) (Untouched (Copy op)) there _
      (when (IsAsBefore tree q) Free there (λ free. just_same there (kept_carry_node tree q false op.replace op.from op.to tree (λ e. absurd (false≢true e)) free.0 (refl, λ n there_. there_))))
      (λ t h. h)

  by_move : (op : CarryOp) → IfOk (carry true op tree) (Untouched (Move op))
  by_move op =
      let Free : Type 0 = IsApartFrom tree q (places_named op.to (Move op)) in
      let there = carry_node true op.replace op.from op.to tree in
      followed (λ (t : Content). Free → IsAsBefore tree q t) (Untouched (Move op)) there _
      (when (IsAsBefore tree q) Free there (λ free. just_same there (kept_carry_node tree q true op.replace op.from op.to tree (λ _. free.0) free.1.0 (refl, λ n there_. there_))))
      (λ t h. h)

-- what an operation leaves as it is
pub left_as_before : (op : Op) (tree : Content) (path : List (List ℕ)) → IsGood tree
    → IfOk (post_outcome op tree) (LeavesWhatIsApart op tree path)
left_as_before (Nop target) tree path good = λ _. refl
left_as_before (Delete target) tree path good = by_remove tree path good target
left_as_before (Copy op) tree path good = by_copy tree path good op
left_as_before (Move op) tree path good = by_move tree path good op
left_as_before (Modify op) tree path good = by_modify tree path good op
