-- A path that is apart from a place is as before after a step there, and those of its kids that were there are there.
use Rattle.std.proofs.Common.{◌≡◌, ◌≢◌, ◌∙◌, ◌-◌, ap, sym, refl, ⊎_elim, ℕ, List, [], ◌∷◌, ◌++◌, drop, map, Option, Some, None, length, Bool, true, false, cond, append_assoc}
use Rattle.std.specs.Prelude.{◌==◌, IsSome, IfOk, is_some, option_map}
use Rattle.std.specs.List.{AllByRecursion}
use Rattle.std.specs.BTreeMap.{insert_entry}
use Rattle.std.proofs.lemmas.Bool.{true≢false}
use Rattle.std.proofs.lemmas.List.{take-append-drop}
use Rattle.sp_base.specs.Outcomes.{◌>>=◌}
use Rattle.sp_base.specs.Paths.{is_under}
use Rattle.sp_base.specs.declared.value.Value.{Value}
use Rattle.resource_tree.specs.declared.nodes.Node.{Node}
use Rattle.resource_tree.specs.declared.places.Place.{Place}
use Rattle.resource_tree.specs.declared.faults.TreeFault.TheVariants.{Taken}
use Rattle.resource_tree.specs.declared.patch.PatchNode.TheVariants as patch_node
use Rattle.resource_tree.specs.Content.{Content, IsGood, by_path, empty_node, kid, name_of, node_at, parent_of, same_path}
use Rattle.resource_tree.specs.Changes.{change_at, clearing, create_fault, creation, fixed_fault, has_prop_at, order_fault, removal, reordering, set_fault, update, with_kid, with_order, with_value, without_kid, without_value}
use Rattle.resource_tree.specs.Moves.{copy, copy_fault, move_fault, part, path_there, relocation}
use Rattle.resource_tree.specs.Patches.{patching}
use Rattle.resource_tree.proofs.PathLemmas.{cases_path, kid_parts, same_path_apart}
use Rattle.resource_tree.proofs.NodeLookups.{node_at-insert_entry_same, node_at-insert_entry_other, there-change_at}
use Rattle.resource_tree.proofs.Relocated.{some_under}
use Rattle.resource_tree.proofs.Under.{under_self}
use Rattle.resource_tree.proofs.Removal.{node_at-removal}
use Rattle.post_apply.specs.declared.fault.ApplyFault.TheVariants.{Tree}
use Rattle.post_apply.specs.Steps.{ApplyOutcome, in_turn, creation_outcome, changed_unless_fault, with_node, with_nodes_below, with_way}
use Rattle.post_apply.specs.Removals.{deletion_outcome, removal_outcome, without_property}
use Rattle.post_apply.specs.Values.{put_at, put_on_way}
use Rattle.post_apply.specs.Carries.{bring, bring_node, bring_value, carry_outcome, carry_fault, carry_node, outcome_without_goal, content_left, property_at, replacement_outcome, unless}
use Rattle.post_apply.specs.Posting.{content_placed}
use Rattle.post_apply.proofs.GoodLemmas.{by_test, followed, okay, refused}
use Rattle.post_laws.specs.Places.{IsApart}
use Rattle.post_laws.proofs.StepLemmas.{beside_part, kid_outside, other_change, unless_begun, unless_holds}

module _ (tree : Content) (q : List (List ℕ)) where
  -- the path is as before, and those of its kids that were there are there
  abbrev pub Stays : Content → Type 0
  Stays t = (node_at t q ≡ node_at tree q) × ((name : List ℕ) → IsSome (node_at tree (kid q name)) → IsSome (node_at t (kid q name)))

  -- that of an outcome
  abbrev pub Keeps : ApplyOutcome Content → Type 0
  Keeps o = IfOk o Stays

  pub chained : (o : ApplyOutcome Content) (f : Content → ApplyOutcome Content) → Keeps o → ((t : Content) → Stays t → Keeps (f t)) → Keeps (o >>= f)
  chained o f first next = followed Stays Stays o f first next

  if_test : (b : Bool) (one other : ApplyOutcome Content) → Keeps one → Keeps other → Keeps (cond b one other)
  if_test b one other this that = by_test Stays b one other (λ _. this) (λ _. that)

  pub turns : {X : Type 0} (step : Content → X → ApplyOutcome Content) (Clear : X → Type 0) → ((t : Content) (x : X) → Clear x → Stays t → Keeps (step t x)) → (xs : List X) (t : Content)
      → AllByRecursion Clear xs → Stays t → Keeps (in_turn step xs t)
  unfolding in_turn
  turns step Clear each [] t clear stays = stays
  turns step Clear each (x ∷ more) t clear stays = chained (step t x) (in_turn step more) (each t x clear.0 stays) (λ u s. turns step Clear each more u clear.1 s)

  changed : (t : Content) (at : List (List ℕ)) (change : Node → Node) → at ≢ q → Stays t → Stays (change_at t at change)
  changed t at change other stays =
      (other_change t at change q (same_path_apart at q other) ∙ stays.0, λ name there_. there-change_at t at change (kid q name) ∙ stays.1 name there_)

  -- ---- what is taken away

  taken : (t : Content) (place : List (List ℕ)) → is_under q place ≡ false → parent_of place ≢ q → Stays t → Stays (removal t place)
  taken t place outside no_parent stays = (same, kids)
    where
      same : node_at (removal t place) q ≡ node_at tree q
      same = let beside = same_path_apart (parent_of place) q no_parent in node_at-removal t place q ∙ (rw (outside, beside) stays.0)

      kids : (name : List ℕ) → IsSome (node_at tree (kid q name)) → IsSome (node_at (removal t place) (kid q name))
      kids name there_ =
          let out = kid_outside q place outside no_parent name in
          ap is_some (node_at-removal t place (kid q name)) ∙ ap (λ b. is_some (cond b None (cond (same_path (parent_of place) (kid q name)) (option_map (without_kid (name_of place)) (node_at t (kid q name))) (node_at t (kid q name))))) out
          ∙ some_under (same_path (parent_of place) (kid q name)) (without_kid (name_of place)) (node_at t (kid q name)) ∙ stays.1 name there_

  pub kept_removed : (t : Content) (place : List (List ℕ)) → IsApart tree q place → Stays t → Keeps (removal_outcome t place)
  kept_removed t place apart stays = unless_holds Stays (fixed_fault t place) (removal t place) (λ _. taken t place apart.outside apart.no_parent stays)

  kept_without : (t : Content) (place : List (List ℕ)) → IsApart tree q place → Stays t → Stays (without_property t place)
  kept_without t place apart stays = go (has_prop_at t (parent_of place) (name_of place))
    where
      go : (b : Bool) → Stays (cond b (clearing t (parent_of place) (name_of place)) t)
      go true = changed t (parent_of place) (without_value (name_of place)) apart.no_parent stays
      go false = stays

  pub kept_deleted : (t : Content) (place : List (List ℕ)) → IsApart tree q place → Stays t → Keeps (deletion_outcome t place)
  kept_deleted t place apart stays = if_test (is_some (node_at t place)) (removal_outcome t place) (okay (without_property t place)) (kept_removed t place apart stays) (kept_without t place apart stays)

  -- ---- values, and a node in another place

  kept_put : (t : Content) (place : List (List ℕ)) (value : Value) → IsApart tree q place → Stays t → Keeps (put_at t place value)
  kept_put t place value apart stays =
      if_test (length place == 0) (refused (Tree (Taken place))) (changed_unless_fault (set_fault t (parent_of place) (name_of place)) (update t (parent_of place) (name_of place) value)) tt
      (unless_holds Stays (set_fault t (parent_of place) (name_of place)) (update t (parent_of place) (name_of place) value) (λ _.
      changed t (parent_of place) (with_value (name_of place) value) apart.no_parent stays))

  pub kept_placed : (node : List (List ℕ)) (place : Option Place) (t : Content) → IsApart tree q node → Stays t → Keeps (content_placed node place t)
  kept_placed node None t apart stays = stays
  kept_placed node (Some place) t apart stays =
      unless_holds Stays (order_fault t node place) (reordering t node place) (λ _. changed t (parent_of node) (with_order (name_of node) place) apart.no_parent stays)

  -- ---- nodes that are copied or moved

  with_part : (from to : List (List ℕ)) → is_under q to ≡ false → parent_of to ≢ q → (es t : Content) → Stays t
      → Stays (patching t (map (λ (e : List (List ℕ) × Node). (path_there from to e.0, patch_node.Node e.1)) es))
  with_part from to outside no_parent es t stays =
      (beside_part from to q outside es t ∙ stays.0, λ name there_. ap is_some (beside_part from to (kid q name) (kid_outside q to outside no_parent name) es t) ∙ stays.1 name there_)

  kept_carried : (moves : Bool) (from to : List (List ℕ)) (t : Content) → (moves ≡ true → IsApart tree q from) → IsApart tree q to → Stays t → Keeps (carry_outcome moves from to t)
  kept_carried false from to t source goal stays =
      unless_holds Stays (copy_fault t from to) (copy t from to) (λ _.
      with_part from to goal.outside goal.no_parent (part t from) _ (changed t (parent_of to) (with_kid (name_of to)) goal.no_parent stays))
  kept_carried true from to t source goal stays =
      unless_holds Stays (move_fault t from to) (relocation t from to) (λ _.
      let left = source refl in
      with_part from to goal.outside goal.no_parent (part t from) _
      (changed (removal t from) (parent_of to) (with_kid (name_of to)) goal.no_parent (taken t from left.outside left.no_parent stays)))

  kept_given : (t : Content) (to : List (List ℕ)) → IsApart tree q to → Stays t → Keeps (outcome_without_goal t to)
  kept_given t to goal stays = if_test (is_some (node_at t to)) (removal_outcome t to) (okay t) (kept_removed t to goal stays) stays

  kept_replacing : (moves : Bool) (from to : List (List ℕ)) (t : Content) → (moves ≡ true → IsApart tree q from) → IsApart tree q to → Stays t → Keeps (replacement_outcome moves from to t)
  kept_replacing moves from to t source goal stays = chained (outcome_without_goal t to) (carry_outcome moves from to) (kept_given t to goal stays) (λ u s. kept_carried moves from to u source goal s)

  pub kept_carry_node : (moves replaces : Bool) (from to : List (List ℕ)) (t : Content) → (moves ≡ true → IsApart tree q from) → IsApart tree q to → Stays t → Keeps (carry_node moves replaces from to t)
  kept_carry_node moves replaces from to t source goal stays =
      chained (unless (carry_fault moves replaces t from to) t) (replacement_outcome moves from to) (unless_begun Stays (carry_fault moves replaces t from to) t stays) (λ u s. kept_replacing moves from to u source goal s)

  -- ---- nodes that are made on the way to a place

  module _ (good : IsGood tree) where
    on_the_way : (place x rest : List (List ℕ)) → place ≡ x ++ rest → IsApart tree q place → (t : Content) → is_some (node_at t x) ≡ false → Stays t → x ≢ q
    on_the_way place x [] whole apart t none stays is = true≢false (sym (under_self x) ∙ ap (λ (p : List (List ℕ)). is_under p x) is ∙ ap (is_under q) (sym (whole ∙ append_nil x)) ∙ apart.outside)
      where
        append_nil : (xs : List (List ℕ)) → xs ++ [] ≡ xs
        append_nil [] = refl
        append_nil (s ∷ xs) = ap (λ (p : List (List ℕ)). s ∷ p) (append_nil xs)
    on_the_way place x (name ∷ rest) whole apart t none stays is =
        let below = apart.on_way name rest (whole ∙ ap (λ (p : List (List ℕ)). p ++ name ∷ rest) is) in
        let was : IsSome (node_at tree q) = good.shape.parents q name below in
        true≢false (sym was ∙ ap is_some (sym stays.0) ∙ ap (λ (p : List (List ℕ)). is_some (node_at t p)) (sym is) ∙ none)

    above_the_way : (place x rest : List (List ℕ)) → place ≡ x ++ rest → IsApart tree q place → (t : Content) → is_some (node_at t x) ≡ false → Stays t → parent_of x ≢ q
    above_the_way place x rest whole apart t none stays is =
        ⊎_elim
        (λ (root : x ≡ []). on_the_way place x rest whole apart t none stays (root ∙ sym (ap parent_of root) ∙ is))
        (λ (deep : x ≢ []).
        let own : x ≡ kid q (name_of x) = sym (kid_parts x deep) ∙ ap (λ (p : List (List ℕ)). kid p (name_of x)) is in
        let there_ = apart.on_way (name_of x) rest (whole ∙ ap (λ (p : List (List ℕ)). p ++ rest) own ∙ append_assoc q (name_of x ∷ []) rest) in
        true≢false (sym (stays.1 (name_of x) there_) ∙ ap (λ (p : List (List ℕ)). is_some (node_at t p)) (sym own) ∙ none))
        (cases_path x [])

    inserted : (t : Content) (x : List (List ℕ)) → x ≢ q → Stays t → Stays (insert_entry by_path t x empty_node)
    inserted t x other stays = (node_at-insert_entry_other t x empty_node q (λ e. other (sym e)) ∙ stays.0, kids)
      where
        kids : (name : List ℕ) → IsSome (node_at tree (kid q name)) → IsSome (node_at (insert_entry by_path t x empty_node) (kid q name))
        kids name there_ =
            ⊎_elim
            (λ (is : kid q name ≡ x). ap (λ (p : List (List ℕ)). is_some (node_at (insert_entry by_path t x empty_node) p)) is ∙ ap is_some (node_at-insert_entry_same t x empty_node))
            (λ (no : kid q name ≢ x). ap is_some (node_at-insert_entry_other t x empty_node (kid q name) no) ∙ stays.1 name there_)
            (cases_path (kid q name) x)

    kept_node : (place x rest : List (List ℕ)) → place ≡ x ++ rest → IsApart tree q place → (t : Content) → Stays t → Keeps (with_node t x)
    kept_node place x rest whole apart t stays =
        by_test Stays (is_some (node_at t x)) (okay t) (creation_outcome t x) (λ _. stays) (λ none.
        unless_holds Stays (create_fault t x) (creation t x empty_node) (λ _.
        changed (insert_entry by_path t x empty_node) (parent_of x) (with_kid (name_of x)) (above_the_way place x rest whole apart t none stays)
        (inserted t x (on_the_way place x rest whole apart t none stays) stays)))

    kept_below : (place names path rest : List (List ℕ)) → place ≡ (path ++ names) ++ rest → IsApart tree q place → (t : Content) → Stays t → Keeps (with_nodes_below path names t)
    unfolding with_nodes_below
    kept_below place [] path rest whole apart t stays = stays
    kept_below place (name ∷ names) path rest whole apart t stays =
        let longer : place ≡ (kid path name ++ names) ++ rest = whole ∙ ap (λ (p : List (List ℕ)). p ++ rest) (sym (append_assoc path (name ∷ []) names)) in
        chained (with_node t (kid path name)) (with_nodes_below (kid path name) names) (kept_node place (kid path name) (names ++ rest) (longer ∙ append_assoc (kid path name) names rest) apart t stays)
        (λ u s. kept_below place names (kid path name) rest longer apart u s)

    pub kept_way : (place path rest : List (List ℕ)) → place ≡ path ++ rest → IsApart tree q place → (t : Content) → Stays t → Keeps (with_way path t)
    kept_way place path rest whole apart t stays = kept_below place path [] rest whole apart t stays

    kept_parent : (place : List (List ℕ)) → IsApart tree q place → (t : Content) → Stays t → Keeps (with_way (parent_of place) t)
    kept_parent place apart t stays = kept_way place (parent_of place) (drop (length place - 1) place) (sym (take-append-drop (length place - 1) place)) apart t stays

    pub kept_on_way : (t : Content) (place : List (List ℕ)) (value : Value) → IsApart tree q place → Stays t → Keeps (put_on_way t place value)
    kept_on_way t place value apart stays = chained (with_way (parent_of place) t) (λ u. put_at u place value) (kept_parent place apart t stays) (λ u s. kept_put u place value apart s)

    -- ---- what a parameter copies or moves

    kept_left : (moves : Bool) (from : List (List ℕ)) (t : Content) → (moves ≡ true → IsApart tree q from) → Stays t → Stays (content_left moves from t)
    kept_left true from t source stays = kept_without t from (source refl) stays
    kept_left false from t source stays = stays

    kept_value : (moves : Bool) (from to : List (List ℕ)) (value : Option Value) (t : Content) → (moves ≡ true → IsApart tree q from) → IsApart tree q to → Stays t → Keeps (bring_value moves from to value t)
    kept_value moves from to None t source goal stays = stays
    kept_value moves from to (Some value) t source goal stays =
        chained (with_way (parent_of to) t) (λ u. put_at (content_left moves from u) to value) (kept_parent to goal t stays)
        (λ u s. kept_put (content_left moves from u) to value goal (kept_left moves from u source s))

    kept_bring_node : (moves : Bool) (from to : List (List ℕ)) (t : Content) → (moves ≡ true → IsApart tree q from) → IsApart tree q to → Stays t → Keeps (bring_node moves from to t)
    kept_bring_node moves from to t source goal stays =
        chained (unless (carry_fault moves true t from to) t) (λ begun. with_way (parent_of to) begun >>= λ ready. replacement_outcome moves from to ready)
        (unless_begun Stays (carry_fault moves true t from to) t stays) (λ u s.
        chained (with_way (parent_of to) u) (λ ready. replacement_outcome moves from to ready) (kept_parent to goal u s) (λ ready r. kept_replacing moves from to ready source goal r))

    pub kept_bring : (moves : Bool) (from to : List (List ℕ)) (t : Content) → (moves ≡ true → IsApart tree q from) → IsApart tree q to → Stays t → Keeps (bring moves from to t)
    kept_bring moves from to t source goal stays =
        if_test (is_some (node_at t from)) (bring_node moves from to t) (bring_value moves from to (property_at t from) t) (kept_bring_node moves from to t source goal stays)
        (kept_value moves from to (property_at t from) t source goal stays)
