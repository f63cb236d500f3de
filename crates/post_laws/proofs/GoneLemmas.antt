-- What a change takes away is gone after it, unless a move, a copy or a value names its place.
use Rattle.std.proofs.Common.{◌≡◌, ◌≢◌, ◌∙◌, ap, sym, refl, subst, ⊎_elim, ℕ, List, [], ◌∷◌, ◌++◌, map, Option, Some, None, length, Bool, true, false, cond, append_assoc}
use Rattle.std.specs.Prelude.{◌==◌, IfOk, is_some, option_and_then, option_map}
use Rattle.std.specs.List.{AllByRecursion}
use Rattle.std.specs.BTreeMap.{insert_entry}
use Rattle.std.proofs.lemmas.Bool.{false≢true, false_from_ne_true}
use Rattle.sp_base.specs.Outcomes.{◌>>=◌}
use Rattle.sp_base.specs.Paths.{is_under, path_or_none, seg_ok}
use Rattle.sp_base.specs.declared.value.Value.{Value}
use Rattle.sp_base.proofs.OptionLemmas.{none_from_test}
use Rattle.resource_tree.specs.declared.nodes.Node.{Node}
use Rattle.resource_tree.specs.declared.places.Place.{Place}
use Rattle.resource_tree.specs.declared.faults.TreeFault.TheVariants.{Taken}
use Rattle.resource_tree.specs.declared.patch.PatchNode.TheVariants as patch_node
use Rattle.resource_tree.specs.Content.{Content, IsGood, by_path, empty_node, kid, name_of, node_at, parent_of, prop_at, same_path}
use Rattle.resource_tree.specs.Changes.{change_at, clearing, create_fault, creation, fixed_fault, has_prop_at, order_fault, removal, reordering, set_fault, update, with_kid, with_order, with_value, without_kid, without_value}
use Rattle.resource_tree.specs.Moves.{copy, copy_fault, move_fault, part, path_there, relocation}
use Rattle.resource_tree.specs.Patches.{patching}
use Rattle.resource_tree.proofs.PathLemmas.{cases_path, kid_parts}
use Rattle.resource_tree.proofs.NodeLookups.{node_at-insert_entry_other, there-change_at}
use Rattle.resource_tree.proofs.Removal.{node_at-removal}
use Rattle.resource_tree.proofs.Under.{under_self}
use Rattle.post_plan.specs.declared.spot.Spot.{Spot}
use Rattle.post_plan.specs.declared.spot.Carry.{Carry}
use Rattle.post_plan.specs.declared.operation.ModifyOp.{ModifyOp}
use Rattle.post_plan.specs.declared.operation.NameWish.{NameWish}
use Rattle.post_plan.specs.declared.operation.PropSet.{PropSet}
use Rattle.post_plan.specs.declared.operation.Op.TheVariants.{Modify}
use Rattle.post_plan.specs.Spots.{full_path}
use Rattle.post_apply.specs.declared.fault.ApplyFault.TheVariants.{Tree}
use Rattle.post_apply.specs.Steps.{ApplyOutcome, in_turn, creation_outcome, changed_unless_fault, or_too_deep, path_of_spot, with_node, with_nodes_below, with_way}
use Rattle.post_apply.specs.Removals.{delete_at, deletion_outcome, removal_outcome, without_property}
use Rattle.post_apply.specs.Values.{named_outcome, put_at, put_on_way, set_at, hinted_value}
use Rattle.post_apply.specs.Carries.{bring, bring_node, bring_value, carry_at, carry_outcome, carry_fault, content_left, outcome_without_goal, property_at, replacement_outcome, unless}
use Rattle.post_apply.specs.Names.{name_given}
use Rattle.post_apply.specs.Posting.{PostEffect, PostedNode, content_placed, modify_at, modify_outcome, post_outcome, posted_node, posted_node_of}
use Rattle.post_apply.proofs.GoodLemmas.{by_test, followed, okay, refused}
use Rattle.post_laws.specs.Places.{goal_path, set_path}
use Rattle.post_laws.specs.Laws.{IsGoneUnlessNamed}
use Rattle.post_laws.specs.Decided.{IsBeside, HasNothingAt, IsNamedNoMore}
use Rattle.post_laws.proofs.StepLemmas.{all_of_map, all_split, any_is, beside_part, for_each, full_spot, unless_begun, unless_holds, when}
use Rattle.post_laws.proofs.PropertyLemmas.{first_clear, lost, none_there, not_root, not_self, not_the_root, nothing_free, parent_clear, prop_changed, prop_cleared, prop_cleared_own, prop_created, prop_put, prop_removed}

module _ (path : List (List ℕ)) where
  -- a content in which nothing is at the path
  abbrev Gone : Content → Type 0
  Gone t = HasNothingAt path t

  -- a content in which not both a node and a property are at the path
  abbrev OneKind : Content → Type 0
  OneKind t = is_some (node_at t path) ≡ true → property_at t path ≡ None

  if_test : (P : Content → Type 0) (b : Bool) (one other : ApplyOutcome Content) → IfOk one P → IfOk other P → IfOk (cond b one other) P
  if_test P b one other this that = by_test P b one other (λ _. this) (λ _. that)

  -- no node is there after a change either
  none_changed : (t : Content) (at : List (List ℕ)) (change : Node → Node) → node_at t path ≡ None → node_at (change_at t at change) path ≡ None
  none_changed t at change none = none_from_test _ (there-change_at t at change path ∙ ap is_some none)

  none_removed : (t : Content) (place : List (List ℕ)) → node_at t path ≡ None → node_at (removal t place) path ≡ None
  none_removed t place none = node_at-removal t place path ∙ go (is_under path place) (same_path (parent_of place) path) (node_at t path) none
    where
      go : (b c : Bool) (o : Option Node) → o ≡ None → cond b None (cond c (option_map (without_kid (name_of place)) o) o) ≡ None
      go true c o e = refl
      go false true o e = ap (option_map (without_kid (name_of place))) e
      go false false o e = e

  -- ---- removals

  gone_removed : (t : Content) (place : List (List ℕ)) → Gone t → Gone (removal t place)
  gone_removed t place gone = record { no_node = none_removed t place gone.no_node; no_property = lost path t (removal t place) (prop_removed path t place) gone.no_property }

  removed : (t : Content) (place : List (List ℕ)) → Gone t → IfOk (removal_outcome t place) Gone
  removed t place gone = unless_holds Gone (fixed_fault t place) (removal t place) (λ _. gone_removed t place gone)

  without : (t : Content) (place : List (List ℕ)) → Gone t → Gone (without_property t place)
  without t place gone = go (has_prop_at t (parent_of place) (name_of place))
    where
      go : (b : Bool) → Gone (cond b (clearing t (parent_of place) (name_of place)) t)
      go true = record {
        no_node = none_changed t (parent_of place) (without_value (name_of place)) gone.no_node;
        no_property = lost path t (clearing t (parent_of place) (name_of place)) (prop_cleared path t (parent_of place) (name_of place)) gone.no_property;
      }
      go false = gone

  deleted : (node : List (List ℕ)) (t : Content) (spot : Spot) → Gone t → IfOk (delete_at node t spot) Gone
  deleted node t spot gone =
      followed (λ (p : List (List ℕ)). p ≡ p) Gone (path_of_spot node spot) (deletion_outcome t) (any_is _) (λ place _.
      if_test Gone (is_some (node_at t place)) (removal_outcome t place) (okay (without_property t place)) (removed t place gone) (without t place gone))

  -- ---- nodes that are made, beside the path

  made : (t : Content) (x : List (List ℕ)) → path ≢ x → Gone t → IfOk (with_node t x) Gone
  made t x apart gone =
      if_test Gone (is_some (node_at t x)) (okay t) (creation_outcome t x) gone
      (unless_holds Gone (create_fault t x) (creation t x empty_node) (λ _. record {
        no_node = none_changed (insert_entry by_path t x empty_node) (parent_of x) (with_kid (name_of x)) (node_at-insert_entry_other t x empty_node path apart ∙ gone.no_node);
        no_property = lost path t (creation t x empty_node) (prop_created path t x) gone.no_property;
      }))

  made_below : (names at : List (List ℕ)) → is_under (at ++ names) path ≡ false → (t : Content) → Gone t → IfOk (with_nodes_below at names t) Gone
  unfolding with_nodes_below
  made_below [] at clear t gone = gone
  made_below (name ∷ names) at clear t gone =
      let longer : is_under (kid at name ++ names) path ≡ false = ap (λ (p : List (List ℕ)). is_under p path) (append_assoc at (name ∷ []) names) ∙ clear in
      followed Gone Gone (with_node t (kid at name)) (with_nodes_below (kid at name) names)
      (made t (kid at name) (λ e. not_self (kid at name) path (first_clear (kid at name) names path longer) (sym e)) gone) (λ u g. made_below names (kid at name) longer u g)

  made_way : (at : List (List ℕ)) → is_under at path ≡ false → (t : Content) → Gone t → IfOk (with_way at t) Gone
  made_way at clear t gone = made_below at [] clear t gone

  -- ---- values

  put : (t : Content) (other : List (List ℕ)) (value : Value) → is_under other path ≡ false → Gone t → IfOk (put_at t other value) Gone
  put t other value clear gone =
      by_test Gone (length other == 0) (refused (Tree (Taken other))) (changed_unless_fault (set_fault t (parent_of other) (name_of other)) (update t (parent_of other) (name_of other) value)) (λ _. tt) (λ deep.
      unless_holds Gone (set_fault t (parent_of other) (name_of other)) (update t (parent_of other) (name_of other) value) (λ _. record {
        no_node = none_changed t (parent_of other) (with_value (name_of other) value) gone.no_node;
        no_property = prop_put path t other value (not_self other path clear) (not_root other deep) (not_the_root other path clear) ∙ gone.no_property;
      }))

  put_way : (t : Content) (other : List (List ℕ)) (value : Value) → is_under other path ≡ false → Gone t → IfOk (put_on_way t other value) Gone
  put_way t other value clear gone = followed Gone Gone (with_way (parent_of other) t) (λ u. put_at u other value) (made_way (parent_of other) (parent_clear other path clear) t gone) (λ u g. put u other value clear g)

  is_set : (node : List (List ℕ)) (t : Content) (set : PropSet) → IsBeside path (set_path node set) → Gone t → IfOk (set_at node t set) Gone
  is_set node t set beside gone =
      followed (λ (v : Value). v ≡ v) Gone (named_outcome (name_of set.spot.path) (hinted_value set.hint set.words)) (λ value. path_of_spot node set.spot >>= λ other. put_on_way t other value) (any_is _) (λ value _.
      followed (λ (p : List (List ℕ)). p ≡ set_path node set) Gone (path_of_spot node set.spot) (λ other. put_on_way t other value) (full_spot node set.spot) (λ other is.
      put_way t other value (ap (λ (p : List (List ℕ)). is_under p path) is ∙ beside.not_under) gone))

  placed : (node : List (List ℕ)) (place : Option Place) (t : Content) → Gone t → IfOk (content_placed node place t) Gone
  placed node None t gone = gone
  placed node (Some place) t gone =
      unless_holds Gone (order_fault t node place) (reordering t node place) (λ _. record {
        no_node = none_changed t (parent_of node) (with_order (name_of node) place) gone.no_node;
        no_property = prop_changed path t (parent_of node) (with_order (name_of node) place) (λ _ _. refl) ∙ gone.no_property;
      })

  -- ---- copies and moves

  with_part : (from to : List (List ℕ)) → IsBeside path to → (es t : Content) → Gone t → Gone (patching t (map (λ (e : List (List ℕ) × Node). (path_there from to e.0, patch_node.Node e.1)) es))
  with_part from to beside es t gone = record {
    no_node = beside_part from to path beside.not_above es t ∙ gone.no_node;
    no_property = ap (λ o. option_and_then (λ (node : Node). prop_at node (name_of path)) o) (beside_part from to (parent_of path) (parent_clear path to beside.not_above) es t) ∙ gone.no_property;
  }

  named_last : (t : Content) (to : List (List ℕ)) → Gone t → Gone (change_at t (parent_of to) (with_kid (name_of to)))
  named_last t to gone = record {
    no_node = none_changed t (parent_of to) (with_kid (name_of to)) gone.no_node;
    no_property = prop_changed path t (parent_of to) (with_kid (name_of to)) (λ _ _. refl) ∙ gone.no_property;
  }

  carried : (moves : Bool) (from to : List (List ℕ)) → IsBeside path to → (t : Content) → Gone t → IfOk (carry_outcome moves from to t) Gone
  carried false from to beside t gone = unless_holds Gone (copy_fault t from to) (copy t from to) (λ _. with_part from to beside (part t from) _ (named_last t to gone))
  carried true from to beside t gone =
      unless_holds Gone (move_fault t from to) (relocation t from to) (λ _. with_part from to beside (part t from) _ (named_last (removal t from) to (gone_removed t from gone)))

  replacing : (moves : Bool) (from to : List (List ℕ)) → IsBeside path to → (t : Content) → Gone t → IfOk (replacement_outcome moves from to t) Gone
  replacing moves from to beside t gone =
      followed Gone Gone (outcome_without_goal t to) (carry_outcome moves from to)
      (if_test Gone (is_some (node_at t to)) (removal_outcome t to) (okay t) (removed t to gone) gone) (λ u g. carried moves from to beside u g)

  left : (moves : Bool) (from : List (List ℕ)) (t : Content) → Gone t → Gone (content_left moves from t)
  left true from t gone = without t from gone
  left false from t gone = gone

  brought_value : (moves : Bool) (from to : List (List ℕ)) (value : Option Value) → IsBeside path to → (t : Content) → Gone t → IfOk (bring_value moves from to value t) Gone
  brought_value moves from to None beside t gone = gone
  brought_value moves from to (Some value) beside t gone =
      followed Gone Gone (with_way (parent_of to) t) (λ u. put_at (content_left moves from u) to value) (made_way (parent_of to) (parent_clear to path beside.not_under) t gone)
      (λ u g. put (content_left moves from u) to value beside.not_under (left moves from u g))

  brought_node : (moves : Bool) (from to : List (List ℕ)) → IsBeside path to → (t : Content) → Gone t → IfOk (bring_node moves from to t) Gone
  brought_node moves from to beside t gone =
      followed Gone Gone (unless (carry_fault moves true t from to) t) (λ begun. with_way (parent_of to) begun >>= λ ready. replacement_outcome moves from to ready)
      (unless_begun Gone (carry_fault moves true t from to) t gone) (λ u g.
      followed Gone Gone (with_way (parent_of to) u) (λ ready. replacement_outcome moves from to ready) (made_way (parent_of to) (parent_clear to path beside.not_under) u g) (λ ready r. replacing moves from to beside ready r))

  brought : (moves : Bool) (node : List (List ℕ)) (t : Content) (carry : Carry) → IsBeside path (goal_path node carry) → Gone t → IfOk (carry_at moves node t carry) Gone
  brought moves node t carry beside gone =
      followed (λ (p : List (List ℕ)). p ≡ goal_path node carry) Gone (path_of_spot node carry.to) (λ to. path_of_spot node carry.from >>= λ from. bring moves from to t) (full_spot node carry.to) (λ to is.
      let free : IsBeside path to = subst (IsBeside path) (sym is) beside in
      followed (λ (p : List (List ℕ)). p ≡ p) Gone (path_of_spot node carry.from) (λ from. bring moves from to t) (any_is _) (λ from _.
      if_test Gone (is_some (node_at t from)) (bring_node moves from to t) (bring_value moves from to (property_at t from) t)
      (brought_node moves from to free t gone) (brought_value moves from to (property_at t from) free t gone)))

  -- ---- until it is taken away

  one_kind_there : (tree : Content) → IsGood tree → OneKind tree
  one_kind_there tree good there_ = go (node_at tree (parent_of path)) refl
    where
      go : (o : Option Node) → node_at tree (parent_of path) ≡ o → option_and_then (λ (node : Node). prop_at node (name_of path)) o ≡ None
      go None e = refl
      go (Some node) e =
          let is_node = good.shape.nodes (parent_of path) node e in
          ⊎_elim
          (λ (root : path ≡ []). none_from_test (prop_at node (name_of path)) (false_from_ne_true _ (λ is.
          false≢true (sym (ap (λ (p : List (List ℕ)). seg_ok (name_of p)) root) ∙ is_node.names (name_of path) is))))
          (λ (deep : path ≢ []). is_node.apart (name_of path) (is_node.kids (name_of path) ∙ ap (λ (p : List (List ℕ)). is_some (node_at tree p)) (kid_parts path deep) ∙ there_))
          (cases_path path [])

  one_made : (t : Content) (x : List (List ℕ)) → OneKind t → IfOk (with_node t x) OneKind
  one_made t x one =
      if_test OneKind (is_some (node_at t x)) (okay t) (creation_outcome t x) one
      (unless_holds OneKind (create_fault t x) (creation t x empty_node) (λ allowed there_.
      lost path t (creation t x empty_node) (prop_created path t x)
      (⊎_elim
      (λ (is : path ≡ x). none_there path t (ap (λ (p : List (List ℕ)). has_prop_at t (parent_of p) (name_of p)) is ∙ (nothing_free t x allowed).1))
      (λ (apart : path ≢ x). one (sym (there-change_at (insert_entry by_path t x empty_node) (parent_of x) (with_kid (name_of x)) path ∙ ap is_some (node_at-insert_entry_other t x empty_node path apart)) ∙ there_))
      (cases_path path x))))

  one_below : (names at : List (List ℕ)) (t : Content) → OneKind t → IfOk (with_nodes_below at names t) OneKind
  unfolding with_nodes_below
  one_below [] at t one = one
  one_below (name ∷ names) at t one = followed OneKind OneKind (with_node t (kid at name)) (with_nodes_below (kid at name) names) (one_made t (kid at name) one) (λ u o. one_below names (kid at name) u o)

  one_way : (at : List (List ℕ)) (t : Content) → OneKind t → IfOk (with_way at t) OneKind
  one_way at t one = one_below at [] t one

  one_removed : (t : Content) (place : List (List ℕ)) → OneKind t → OneKind (removal t place)
  one_removed t place one there_ = lost path t (removal t place) (prop_removed path t place) (one (go (is_under path place) (same_path (parent_of place) path) (node_at t path) (sym (ap is_some (node_at-removal t place path)) ∙ there_)))
    where
      go : (b c : Bool) (o : Option Node) → is_some (cond b None (cond c (option_map (without_kid (name_of place)) o) o)) ≡ true → is_some o ≡ true
      go true c o e = absurd (false≢true e)
      go false true None e = e
      go false true (Some node) e = refl
      go false false o e = e

  one_without : (t : Content) (place : List (List ℕ)) → OneKind t → OneKind (without_property t place)
  one_without t place one = go (has_prop_at t (parent_of place) (name_of place))
    where
      go : (b : Bool) → OneKind (cond b (clearing t (parent_of place) (name_of place)) t)
      go true there_ = lost path t (clearing t (parent_of place) (name_of place)) (prop_cleared path t (parent_of place) (name_of place)) (one (sym (there-change_at t (parent_of place) (without_value (name_of place)) path) ∙ there_))
      go false there_ = one there_

  one_deleted : (node : List (List ℕ)) (t : Content) (spot : Spot) → OneKind t → IfOk (delete_at node t spot) OneKind
  one_deleted node t spot one =
      followed (λ (p : List (List ℕ)). p ≡ p) OneKind (path_of_spot node spot) (deletion_outcome t) (any_is _) (λ place _.
      if_test OneKind (is_some (node_at t place)) (removal_outcome t place) (okay (without_property t place))
      (unless_holds OneKind (fixed_fault t place) (removal t place) (λ _. one_removed t place one)) (one_without t place one))

  -- ---- it is taken away

  own_deleted : (t : Content) → OneKind t → IfOk (deletion_outcome t path) Gone
  own_deleted t one =
      by_test Gone (is_some (node_at t path)) (removal_outcome t path) (okay (without_property t path)) (λ there_.
      unless_holds Gone (fixed_fault t path) (removal t path) (λ _. record {
        no_node = node_at-removal t path path ∙ ap (λ b. cond b None (cond (same_path (parent_of path) path) (option_map (without_kid (name_of path)) (node_at t path)) (node_at t path))) (under_self path);
        no_property = lost path t (removal t path) (prop_removed path t path) (one there_);
      }))
      (λ none. go none (has_prop_at t (parent_of path) (name_of path)) refl)
    where
      go : is_some (node_at t path) ≡ false → (b : Bool) → has_prop_at t (parent_of path) (name_of path) ≡ b → Gone (cond b (clearing t (parent_of path) (name_of path)) t)
      go none true e = record { no_node = none_changed t (parent_of path) (without_value (name_of path)) (none_from_test (node_at t path) none); no_property = prop_cleared_own path t }
      go none false e = record { no_node = none_from_test (node_at t path) none; no_property = none_there path t e }

  -- each of some steps
  turns : {X : Type 0} (P : Content → Type 0) (step : Content → X → ApplyOutcome Content) (Clear : X → Type 0) → ((t : Content) (x : X) → Clear x → P t → IfOk (step t x) P) → (xs : List X) (t : Content)
      → AllByRecursion Clear xs → P t → IfOk (in_turn step xs t) P
  unfolding in_turn
  turns P step Clear each [] t clear p = p
  turns P step Clear each (x ∷ more) t clear p = followed P P (step t x) (in_turn step more) (each t x clear.0 p) (λ u s. turns P step Clear each more u clear.1 s)

  all_any : {X : Type 0} (xs : List X) → AllByRecursion (λ (x : X). x ≡ x) xs
  all_any [] = tt
  all_any (x ∷ xs) = (refl, all_any xs)

  -- the removals before it may do what they do
  after_others : (node : List (List ℕ)) (before : List Spot) (spot : Spot) (later : List Spot) → full_path node spot ≡ path → (t : Content) → OneKind t
      → IfOk (in_turn (delete_at node) (before ++ spot ∷ later) t) Gone
  unfolding in_turn
  after_others node [] spot later whole t one =
      followed Gone Gone (delete_at node t spot) (in_turn (delete_at node) later)
      (followed (λ (p : List (List ℕ)). p ≡ full_path node spot) Gone (path_of_spot node spot) (deletion_outcome t) (full_spot node spot) (λ place is.
      subst (λ (p : List (List ℕ)). IfOk (deletion_outcome t p) Gone) (sym (is ∙ whole)) (own_deleted t one)))
      (λ u g. turns Gone (delete_at node) (λ (s : Spot). s ≡ s) (λ v s _ h. deleted node v s h) later u (all_any later) g)
  after_others node (first ∷ before) spot later whole t one =
      followed OneKind Gone (delete_at node t first) (in_turn (delete_at node) (before ++ spot ∷ later)) (one_deleted node t first one) (λ u o. after_others node before spot later whole u o)

  gone_in_change : (op : ModifyOp) (at : PostedNode) (before later : List Spot) (spot : Spot) → op.deletes ≡ before ++ spot ∷ later → full_path at.node spot ≡ path → IsNamedNoMore at.node path op → OneKind at.content
      → IfOk (modify_outcome op at) Gone
  gone_in_change op at before later spot are whole named one =
      let node = at.node in
      let moves = all_split (IsBeside path) (map (goal_path node) op.moves) _ named in
      let copies = all_split (IsBeside path) (map (goal_path node) op.copies) (map (set_path node) op.sets) moves.1 in
      followed OneKind Gone (with_way node at.content) _ (one_way node at.content one) (λ made o.
      followed Gone Gone (in_turn (delete_at node) op.deletes made) _
      (subst (λ (spots : List Spot). IfOk (in_turn (delete_at node) spots made) Gone) (sym are) (after_others node before spot later whole made o)) (λ less a.
      followed Gone Gone (in_turn (carry_at true node) op.moves less) _
      (turns Gone (carry_at true node) (λ (c : Carry). IsBeside path (goal_path node c)) (brought true node) op.moves less (all_of_map (IsBeside path) (goal_path node) op.moves moves.0) a) (λ moved b.
      followed Gone Gone (in_turn (carry_at false node) op.copies moved) _
      (turns Gone (carry_at false node) (λ (c : Carry). IsBeside path (goal_path node c)) (brought false node) op.copies moved (all_of_map (IsBeside path) (goal_path node) op.copies copies.0) b) (λ copied c.
      followed Gone Gone (in_turn (set_at node) op.sets copied) _
      (turns Gone (set_at node) (λ (s : PropSet). IsBeside path (set_path node s)) (is_set node) op.sets copied (all_of_map (IsBeside path) (set_path node) op.sets copies.1) c) (λ valued d.
      placed node op.place valued d)))))

-- ---- a change among its operations

-- nowhere are both a node and a property once the parent of a new node is there
abbrev Begins : PostedNode → Type 0
Begins at = (path : List (List ℕ)) → OneKind path at.content

begun : (target : List (List ℕ)) (fresh : Option NameWish) (tree : Content) → IsGood tree → IfOk (posted_node_of target fresh tree) Begins
begun target None tree good = λ path. one_kind_there path tree good
begun target (Some wish) tree good =
    followed (λ (t : Content). (path : List (List ℕ)) → OneKind path t) Begins (with_way target tree) (λ above. or_too_deep (path_or_none (kid target (name_given above target wish))) >>= λ path. okay (posted_node above path))
    (for_each (λ (path : List (List ℕ)) (t : Content). OneKind path t) (with_way target tree) (λ path. one_way path target tree (one_kind_there path tree good)))
    (λ above one.
    followed (λ (p : List (List ℕ)). p ≡ p) Begins (or_too_deep (path_or_none (kid target (name_given above target wish)))) (λ path. okay (posted_node above path)) (any_is _) (λ path _. one))

-- what an accepted change takes away is gone
pub gone_after : (op : ModifyOp) (tree : Content) (before later : List Spot) (spot : Spot) → IsGood tree → op.deletes ≡ before ++ spot ∷ later
    → IfOk (post_outcome (Modify op) tree) (IsGoneUnlessNamed op spot)
gone_after op tree before later spot good are =
    let Q : PostEffect → Type 0 = IsGoneUnlessNamed op spot in
    followed Begins Q (posted_node_of op.target op.fresh tree) (modify_at op) (begun op.target op.fresh tree good) (λ at one.
    let path : List (List ℕ) = full_path at.node spot in
    followed (λ (t : Content). IsNamedNoMore at.node path op → HasNothingAt path t) Q (modify_outcome op at) _
    (when (HasNothingAt path) (IsNamedNoMore at.node path op) (modify_outcome op at) (λ named. gone_in_change path op at before later spot are refl named (one path)))
    (λ t h. h))
