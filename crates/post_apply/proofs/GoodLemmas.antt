-- The content after a POST is good, since each of its steps leaves it so.
use Rattle.std.proofs.Common.{◌≡◌, ◌∙◌, ◌<◌, ◌≤◌, ◌+◌, ◌-◌, ap, sym, refl, subst, arith, ⊎_elim, ℕ, List, [], ◌∷◌, ◌++◌, Option, Some, None, length, drop, Bool, true, false, cond, append_assoc}
use Rattle.std.specs.Prelude.{◌==◌, IsTrue, IsSome, IfOk, Ok, Err, is_some, is_none, not, nat_lt}
use Rattle.std.specs.List.{list_all}
use Rattle.std.specs.List.Sorted.{IsStrictlySortedBy}
use Rattle.std.specs.Map.{keys_of}
use Rattle.std.specs.Option.{option_map_or}
use Rattle.std.proofs.lemmas.Bool.{cases_Bool, true≢false, false≢true, and_parts}
use Rattle.std.proofs.lemmas.Bool.Decides.{nat_tests}
use Rattle.std.proofs.lemmas.List.{take-append-drop}
use Rattle.std.proofs.lemmas.List.Folds.{list_all_at}
use Rattle.std.proofs.lemmas.List.Kept.{IsStrictlySortedBy-filter}
use Rattle.sp_base.specs.Outcomes.{◌>>=◌}
use Rattle.sp_base.specs.Paths.{is_path, is_under, path_or_none, seg_ok}
use Rattle.sp_base.specs.declared.value.Value.{Value}
use Rattle.sp_base.proofs.OrderingLemmas.{by_path_total}
use Rattle.sp_base.proofs.PathTests.{path_before}
use Rattle.resource_tree.specs.declared.nodes.Node.{Node}
use Rattle.resource_tree.specs.declared.places.Place.{Place}
use Rattle.resource_tree.specs.declared.faults.TreeFault.{TreeFault}
use Rattle.resource_tree.specs.declared.faults.TreeFault.TheVariants.{FullTree, NoSuch, RootFixed, Taken, TooDeep}
use Rattle.resource_tree.specs.Content.{Content, IsGood, by_path, empty_node, kid, most_nodes, name_of, node_at, parent_of, prop_at}
use Rattle.resource_tree.specs.Changes.{change_at, clearing, create_fault, creation, fixed_fault, has_prop_at, order_fault, removal, reordering, set_fault, update, with_kid, with_order, with_value, without_kid, without_value}
use Rattle.resource_tree.specs.Moves.{copy, copy_fault, ends_fault, first_fault, is_too_deep, move_fault, part, part_size_fault, part_there, relocation, target_fault}
use Rattle.resource_tree.proofs.EntriesInOrder.{sorted-insert_entry}
use Rattle.resource_tree.proofs.Without.{keys_of-filter}
use Rattle.resource_tree.proofs.Patching.{sorted-patching}
use Rattle.resource_tree.proofs.Creation.{IsGood-creation, no_fault}
use Rattle.resource_tree.proofs.Update.{IsGood-clearing, IsGood-update}
use Rattle.resource_tree.proofs.Reordering.{IsGood-reordering, can_move}
use Rattle.resource_tree.proofs.Removal.{IsGood-removal}
use Rattle.resource_tree.proofs.Copied.{IsGood-copy, is_free, sorted-change_at}
use Rattle.resource_tree.proofs.Relocated.{IsGood-relocation, may_go}
use Rattle.tree_draft.proofs.DraftLemmas.{no_names}
use Rattle.post_plan.specs.declared.spot.Spot.{Spot}
use Rattle.post_plan.specs.declared.spot.Carry.{Carry}
use Rattle.post_plan.specs.declared.operation.CarryOp.{CarryOp}
use Rattle.post_plan.specs.declared.operation.ModifyOp.{ModifyOp}
use Rattle.post_plan.specs.declared.operation.NameWish.{NameWish}
use Rattle.post_plan.specs.declared.operation.PropSet.{PropSet}
use Rattle.post_plan.specs.declared.operation.Op.{Op}
use Rattle.post_plan.specs.declared.operation.Op.TheVariants.{Nop, Delete, Copy, Move, Modify}
use Rattle.post_plan.specs.OperationPaths.{carry_has_paths, names_paths, set_has_path, spot_has_path}
use Rattle.post_apply.specs.declared.fault.ApplyFault.{ApplyFault}
use Rattle.post_apply.specs.declared.fault.ApplyFault.TheVariants.{Tree}
use Rattle.post_apply.specs.Steps.{ApplyOutcome, in_turn, creation_outcome, or_too_deep, path_of_spot, changed_unless_fault, with_node, with_nodes_below, with_way}
use Rattle.post_apply.specs.Removals.{delete_at, deletion_outcome, removal_outcome, without_property}
use Rattle.post_apply.specs.Values.{named_outcome, put_at, put_on_way, set_at, hinted_value}
use Rattle.post_apply.specs.Carries.{bring, bring_node, bring_value, carry_outcome, carry_at, carry_fault, carry_node, outcome_without_goal, content_left, property_at, replacement_outcome, unless}
use Rattle.post_apply.specs.Names.{name_given}
use Rattle.post_apply.specs.Posting.{PostEffect, PostedNode, carry, content_after, content_after_post, modify_outcome, modify, modify_at, content_placed, post_outcome, remove, posted_node, posted_node_of}

-- ---- paths

pub parent_path : (path : List (List ℕ)) → is_path path ≡ true → is_path (parent_of path) ≡ true
parent_path path valid = path_before (parent_of path) (drop (length path - 1) path) (ap is_path (take-append-drop (length path - 1) path) ∙ valid)

within : (path : List (List ℕ)) → (length path == 0) ≡ false → length path - 1 < length path
within [] e = absurd (true≢false e)
within (a ∷ t) e = omega arith

-- the last segment of a path is a name
name_ok : (path : List (List ℕ)) → is_path path ≡ true → (length path == 0) ≡ false → IsTrue (seg_ok (name_of path))
name_ok path valid some =
    ⊎_elim
    (λ this. this)
    (λ no. absurd (true≢false (sym (and_parts (list_all seg_ok path) _ valid).0 ∙ list_all_at seg_ok path (length path - 1) [] (within path some) no)))
    (cases_Bool (seg_ok (name_of path)))

-- ---- one step after another

abbrev pub okay : {A : Type 0} → A → ApplyOutcome A
okay x = Ok x

abbrev pub refused : {A : Type 0} → ApplyFault → ApplyOutcome A
refused e = Err e

pub followed : {A B : Type 0} (P : A → Type 0) (Q : B → Type 0) (o : ApplyOutcome A) (f : A → ApplyOutcome B) → IfOk o P → ((x : A) → P x → IfOk (f x) Q) → IfOk (o >>= f) Q
followed P Q (Ok x) f was next = next x was
followed P Q (Err e) f was next = tt

pub by_test : {A : Type 0} (P : A → Type 0) (b : Bool) (one other : ApplyOutcome A) → (b ≡ true → IfOk one P) → (b ≡ false → IfOk other P) → IfOk (cond b one other) P
by_test P true one other this that = this refl
by_test P false one other this that = that refl

abbrev anything : {A : Type 0} (o : ApplyOutcome A) → Type 0
anything {A} o = IfOk o (λ (x : A). x ≡ x)

any_is : {A : Type 0} (o : ApplyOutcome A) → anything o
any_is (Ok x) = refl
any_is (Err e) = tt

-- the content that an outcome gives is good
abbrev Good : ApplyOutcome Content → Type 0
Good o = IfOk o (λ (t : Content). IsGood t)

chained : (o : ApplyOutcome Content) (f : Content → ApplyOutcome Content) → Good o → ((t : Content) → IsGood t → Good (f t)) → Good (o >>= f)
chained o f was next = followed (λ (t : Content). IsGood t) (λ (t : Content). IsGood t) o f was next

if_test : (b : Bool) (one other : ApplyOutcome Content) → (b ≡ true → Good one) → (b ≡ false → Good other) → Good (cond b one other)
if_test b one other this that = by_test (λ (t : Content). IsGood t) b one other this that

unless_tree : (fault : Option TreeFault) (changed : Content) → (fault ≡ None → IsGood changed) → Good (changed_unless_fault fault changed)
unless_tree None changed good = good refl
unless_tree (Some fault) changed good = tt

unless_begun : (fault : Option ApplyFault) (tree : Content) → IsGood tree → Good (unless fault tree)
unless_begun None tree good = good
unless_begun (Some fault) tree good = tt

turns : {X : Type 0} (step : Content → X → ApplyOutcome Content) (fits : X → Bool) → ((tree : Content) (x : X) → fits x ≡ true → IsGood tree → Good (step tree x)) → (xs : List X) (tree : Content) → list_all fits xs ≡ true → IsGood tree → Good (in_turn step xs tree)
unfolding in_turn
turns step fits keeps [] tree all good = good
turns step fits keeps (x ∷ more) tree all good =
    let parts = and_parts (fits x) (list_all fits more) all in
    chained (step tree x) (in_turn step more) (keeps tree x parts.0 good) (λ t g. turns step fits keeps more t parts.1 g)

-- ---- nodes that are made

good_made : (tree : Content) (path : List (List ℕ)) → is_path path ≡ true → IsGood tree → Good (creation_outcome tree path)
good_made tree path valid good =
    unless_tree (create_fault tree path) (creation tree path empty_node) (λ allowed.
    IsGood-creation (creation tree path empty_node) tree path [] good allowed valid no_names refl
    (sorted-change_at _ (parent_of path) (with_kid (name_of path)) (sorted-insert_entry by_path by_path_total tree path empty_node good.ordered)))

good_node : (tree : Content) (path : List (List ℕ)) → is_path path ≡ true → IsGood tree → Good (with_node tree path)
good_node tree path valid good = if_test (is_some (node_at tree path)) (okay tree) (creation_outcome tree path) (λ _. good) (λ _. good_made tree path valid good)

good_below : (names path : List (List ℕ)) (tree : Content) → is_path (path ++ names) ≡ true → IsGood tree → Good (with_nodes_below path names tree)
unfolding with_nodes_below
good_below [] path tree valid good = good
good_below (name ∷ names) path tree valid good =
    let longer : is_path (kid path name ++ names) ≡ true = ap is_path (append_assoc path (name ∷ []) names) ∙ valid in
    chained (with_node tree (kid path name)) (with_nodes_below (kid path name) names) (good_node tree (kid path name) (path_before (kid path name) names longer) good) (λ t g. good_below names (kid path name) t longer g)

good_way : (path : List (List ℕ)) (tree : Content) → is_path path ≡ true → IsGood tree → Good (with_way path tree)
good_way path tree valid good = good_below path [] tree valid good

-- ---- places

deep_is_path : (path : List (List ℕ)) → IfOk (or_too_deep (path_or_none path)) (λ (p : List (List ℕ)). is_path p ≡ true)
deep_is_path path = go (is_path path) refl
  where
    go : (b : Bool) → is_path path ≡ b → IfOk (or_too_deep (cond b (Some path) None)) (λ (p : List (List ℕ)). is_path p ≡ true)
    go true valid = valid
    go false none = tt

spot_is_path : (node : List (List ℕ)) (spot : Spot) → is_path spot.path ≡ true → IfOk (path_of_spot node spot) (λ (p : List (List ℕ)). is_path p ≡ true)
spot_is_path node spot valid =
    by_test (λ (p : List (List ℕ)). is_path p ≡ true) spot.at_target (or_too_deep (path_or_none (node ++ spot.path))) (okay spot.path) (λ _. deep_is_path (node ++ spot.path)) (λ _. valid)

-- a step at a spot
at_spot : (node : List (List ℕ)) (spot : Spot) (f : List (List ℕ) → ApplyOutcome Content) → is_path spot.path ≡ true → ((path : List (List ℕ)) → is_path path ≡ true → Good (f path)) → Good (path_of_spot node spot >>= f)
at_spot node spot f valid next = followed (λ (p : List (List ℕ)). is_path p ≡ true) (λ (t : Content). IsGood t) (path_of_spot node spot) f (spot_is_path node spot valid) next

-- ---- what is taken away

pub sorted-removal : (tree : Content) (path : List (List ℕ)) → IsStrictlySortedBy by_path (keys_of tree) → IsStrictlySortedBy by_path (keys_of (removal tree path))
sorted-removal tree path sorted =
    subst (λ (ks : List (List (List ℕ))). IsStrictlySortedBy by_path ks) (sym (keys_of-filter (λ p. not (is_under p path)) (change_at tree (parent_of path) (without_kid (name_of path)))))
    (IsStrictlySortedBy-filter by_path (λ p. not (is_under p path)) (keys_of (change_at tree (parent_of path) (without_kid (name_of path)))) (sorted-change_at tree (parent_of path) (without_kid (name_of path)) sorted))

pub good_removed : (tree : Content) (path : List (List ℕ)) → IsGood tree → Good (removal_outcome tree path)
good_removed tree path good =
    unless_tree (fixed_fault tree path) (removal tree path) (λ allowed. IsGood-removal (removal tree path) tree path good (can_move tree path allowed) refl (sorted-removal tree path good.ordered))

there_from : (o : Option Node) (name : List ℕ) → option_map_or (λ (node : Node). is_some (prop_at node name)) o false ≡ true → IsSome o
there_from None name e = absurd (false≢true e)
there_from (Some node) name e = refl

good_without : (tree : Content) (path : List (List ℕ)) → IsGood tree → IsGood (without_property tree path)
good_without tree path good = go (has_prop_at tree (parent_of path) (name_of path)) refl
  where
    go : (b : Bool) → has_prop_at tree (parent_of path) (name_of path) ≡ b → IsGood (cond b (clearing tree (parent_of path) (name_of path)) tree)
    go true has =
        IsGood-clearing (clearing tree (parent_of path) (name_of path)) tree (parent_of path) (name_of path) good (there_from (node_at tree (parent_of path)) (name_of path) has) refl
        (sorted-change_at tree (parent_of path) (without_value (name_of path)) good.ordered)
    go false has = good

good_deleted : (tree : Content) (path : List (List ℕ)) → IsGood tree → Good (deletion_outcome tree path)
good_deleted tree path good = if_test (is_some (node_at tree path)) (removal_outcome tree path) (okay (without_property tree path)) (λ _. good_removed tree path good) (λ _. good_without tree path good)

good_delete_at : (node : List (List ℕ)) (tree : Content) (spot : Spot) → spot_has_path spot ≡ true → IsGood tree → Good (delete_at node tree spot)
good_delete_at node tree spot valid good = at_spot node spot (deletion_outcome tree) valid (λ path _. good_deleted tree path good)

-- ---- values

good_put : (tree : Content) (path : List (List ℕ)) (value : Value) → is_path path ≡ true → IsGood tree → Good (put_at tree path value)
good_put tree path value valid good =
    if_test (length path == 0) (refused (Tree (Taken path))) (changed_unless_fault (set_fault tree (parent_of path) (name_of path)) (update tree (parent_of path) (name_of path) value)) (λ _. tt) (λ some.
    unless_tree (set_fault tree (parent_of path) (name_of path)) (update tree (parent_of path) (name_of path) value) (λ allowed.
    IsGood-update (update tree (parent_of path) (name_of path) value) tree (parent_of path) (name_of path) value good allowed (name_ok path valid some) refl
    (sorted-change_at tree (parent_of path) (with_value (name_of path) value) good.ordered)))

good_on_way : (tree : Content) (path : List (List ℕ)) (value : Value) → is_path path ≡ true → IsGood tree → Good (put_on_way tree path value)
good_on_way tree path value valid good =
    chained (with_way (parent_of path) tree) (λ t. put_at t path value) (good_way (parent_of path) tree (parent_path path valid) good) (λ t g. good_put t path value valid g)

good_set : (node : List (List ℕ)) (tree : Content) (set : PropSet) → set_has_path set ≡ true → IsGood tree → Good (set_at node tree set)
good_set node tree set valid good =
    followed (λ (v : Value). v ≡ v) (λ (t : Content). IsGood t) (named_outcome (name_of set.spot.path) (hinted_value set.hint set.words)) (λ value. path_of_spot node set.spot >>= λ path. put_on_way tree path value) (any_is _) (λ value _.
    at_spot node set.spot (λ path. put_on_way tree path value) valid (λ path fits. good_on_way tree path value fits good))

-- ---- copies and moves

none_both : (one other : Option TreeFault) → first_fault one other ≡ None → (one ≡ None) × (other ≡ None)
none_both None other e = (refl, e)
none_both (Some fault) other e = absurd (false≢true (sym (ap is_some e)))

few : (n : ℕ) → nat_lt 200000 n ≡ false → n ≤ 200000
few n e = grind (arith, nat_tests)

good_copy : (tree : Content) (from to : List (List ℕ)) → IsGood tree → copy_fault tree from to ≡ None → IsGood (copy tree from to)
good_copy tree from to good allowed =
    let parts = none_both (target_fault tree from to) (part_size_fault tree from to) allowed in
    let fits = no_fault (is_too_deep tree from to) TooDeep _ parts.1 in
    let small = no_fault (nat_lt most_nodes (length tree + length (part tree from))) FullTree None fits.1 in
    IsGood-copy tree from to good (is_free tree from to parts.0) fits.0 (copy tree from to) refl
    (sorted-patching (change_at tree (parent_of to) (with_kid (name_of to))) (part_there tree from to) (sorted-change_at tree (parent_of to) (with_kid (name_of to)) good.ordered))
    (few _ small.0)

good_move : (tree : Content) (from to : List (List ℕ)) → IsGood tree → move_fault tree from to ≡ None → IsGood (relocation tree from to)
good_move tree from to good allowed =
    let parts = none_both (ends_fault tree from to) (cond (is_too_deep tree from to) (Some TooDeep) None) allowed in
    let fits = no_fault (is_too_deep tree from to) TooDeep None parts.1 in
    IsGood-relocation tree from to good (may_go tree from to parts.0) fits.0 (relocation tree from to) refl

good_carried : (moves : Bool) (from to : List (List ℕ)) (tree : Content) → IsGood tree → Good (carry_outcome moves from to tree)
good_carried false from to tree good = unless_tree (copy_fault tree from to) (copy tree from to) (good_copy tree from to good)
good_carried true from to tree good = unless_tree (move_fault tree from to) (relocation tree from to) (good_move tree from to good)

pub good_given : (tree : Content) (to : List (List ℕ)) → IsGood tree → Good (outcome_without_goal tree to)
good_given tree to good = if_test (is_some (node_at tree to)) (removal_outcome tree to) (okay tree) (λ _. good_removed tree to good) (λ _. good)

good_replacing : (moves : Bool) (from to : List (List ℕ)) (tree : Content) → IsGood tree → Good (replacement_outcome moves from to tree)
good_replacing moves from to tree good = chained (outcome_without_goal tree to) (carry_outcome moves from to) (good_given tree to good) (λ t g. good_carried moves from to t g)

good_carry_node : (moves replaces : Bool) (from to : List (List ℕ)) (tree : Content) → IsGood tree → Good (carry_node moves replaces from to tree)
good_carry_node moves replaces from to tree good =
    chained (unless (carry_fault moves replaces tree from to) tree) (replacement_outcome moves from to) (unless_begun (carry_fault moves replaces tree from to) tree good) (λ t g. good_replacing moves from to t g)

good_left : (moves : Bool) (from : List (List ℕ)) (tree : Content) → IsGood tree → IsGood (content_left moves from tree)
good_left true from tree good = good_without tree from good
good_left false from tree good = good

good_value : (moves : Bool) (from to : List (List ℕ)) (value : Option Value) (tree : Content) → is_path to ≡ true → IsGood tree → Good (bring_value moves from to value tree)
good_value moves from to None tree valid good = good
good_value moves from to (Some value) tree valid good =
    chained (with_way (parent_of to) tree) (λ t. put_at (content_left moves from t) to value) (good_way (parent_of to) tree (parent_path to valid) good) (λ t g. good_put (content_left moves from t) to value valid (good_left moves from t g))

good_bring_node : (moves : Bool) (from to : List (List ℕ)) (tree : Content) → is_path to ≡ true → IsGood tree → Good (bring_node moves from to tree)
good_bring_node moves from to tree valid good =
    chained (unless (carry_fault moves true tree from to) tree) (λ begun. with_way (parent_of to) begun >>= λ ready. replacement_outcome moves from to ready) (unless_begun (carry_fault moves true tree from to) tree good) (λ t g.
    chained (with_way (parent_of to) t) (λ ready. replacement_outcome moves from to ready) (good_way (parent_of to) t (parent_path to valid) g) (λ ready h. good_replacing moves from to ready h))

good_bring : (moves : Bool) (from to : List (List ℕ)) (tree : Content) → is_path to ≡ true → IsGood tree → Good (bring moves from to tree)
good_bring moves from to tree valid good =
    if_test (is_some (node_at tree from)) (bring_node moves from to tree) (bring_value moves from to (property_at tree from) tree) (λ _. good_bring_node moves from to tree valid good) (λ _. good_value moves from to (property_at tree from) tree valid good)

good_carry_at : (moves : Bool) (node : List (List ℕ)) (tree : Content) (carry : Carry) → carry_has_paths carry ≡ true → IsGood tree → Good (carry_at moves node tree carry)
good_carry_at moves node tree carry valid good =
    let ends = and_parts (spot_has_path carry.from) (spot_has_path carry.to) valid in
    at_spot node carry.to (λ to. path_of_spot node carry.from >>= λ from. bring moves from to tree) ends.1 (λ to fits.
    at_spot node carry.from (λ from. bring moves from to tree) ends.0 (λ from _. good_bring moves from to tree fits good))

-- ---- a node in another place

fixed_not : (tree : Content) (path : List (List ℕ)) (place : Place) → order_fault tree path place ≡ None → fixed_fault tree path ≡ None
fixed_not tree path place e =
    let one = no_fault (is_none (node_at tree path)) (NoSuch path) _ e in
    let two = no_fault (length path == 0) RootFixed _ one.1 in
    let there_ = one.0 in
    let deep = two.0 in
    rw (there_, deep) refl

good_placed : (node : List (List ℕ)) (place : Option Place) (tree : Content) → IsGood tree → Good (content_placed node place tree)
good_placed node None tree good = good
good_placed node (Some place) tree good =
    unless_tree (order_fault tree node place) (reordering tree node place) (λ allowed.
    IsGood-reordering (reordering tree node place) tree node place good (can_move tree node (fixed_not tree node place allowed)) refl (sorted-change_at tree (parent_of node) (with_order (name_of node) place) good.ordered))

-- ---- the operations

good_modified : (op : ModifyOp) (at : PostedNode) → names_paths (Modify op) ≡ true → is_path at.node ≡ true → IsGood at.content → Good (modify_outcome op at)
good_modified op at all valid good =
    let rest = (and_parts (is_path op.target) _ all).1 in
    let deletes = and_parts (list_all spot_has_path op.deletes) _ rest in
    let moves = and_parts (list_all carry_has_paths op.moves) _ deletes.1 in
    let copies = and_parts (list_all carry_has_paths op.copies) (list_all set_has_path op.sets) moves.1 in
    chained (with_way at.node at.content) _ (good_way at.node at.content valid good) (λ creation_outcome a.
    chained (in_turn (delete_at at.node) op.deletes creation_outcome) _ (turns (delete_at at.node) spot_has_path (λ t x f g. good_delete_at at.node t x f g) op.deletes creation_outcome deletes.0 a) (λ less b.
    chained (in_turn (carry_at true at.node) op.moves less) _ (turns (carry_at true at.node) carry_has_paths (λ t x f g. good_carry_at true at.node t x f g) op.moves less moves.0 b) (λ moved c.
    chained (in_turn (carry_at false at.node) op.copies moved) _ (turns (carry_at false at.node) carry_has_paths (λ t x f g. good_carry_at false at.node t x f g) op.copies moved copies.0 c) (λ copied d.
    chained (in_turn (set_at at.node) op.sets copied) _ (turns (set_at at.node) set_has_path (λ t x f g. good_set at.node t x f g) op.sets copied copies.1 d) (λ valued e. good_placed at.node op.place valued e)))))

abbrev GoodPostedNode : PostedNode → Type 0
GoodPostedNode at = IsGood at.content × (is_path at.node ≡ true)

abbrev GoodPosted : PostEffect → Type 0
GoodPosted done = IsGood done.content

good_posted_node : (target : List (List ℕ)) (fresh : Option NameWish) (tree : Content) → is_path target ≡ true → IsGood tree → IfOk (posted_node_of target fresh tree) GoodPostedNode
good_posted_node target None tree valid good = (good, valid)
good_posted_node target (Some wish) tree valid good =
    followed (λ (t : Content). IsGood t) GoodPostedNode (with_way target tree) (λ above. or_too_deep (path_or_none (kid target (name_given above target wish))) >>= λ path. okay (posted_node above path)) (good_way target tree valid good) (λ above g.
    followed (λ (p : List (List ℕ)). is_path p ≡ true) GoodPostedNode (or_too_deep (path_or_none (kid target (name_given above target wish)))) (λ path. okay (posted_node above path)) (deep_is_path (kid target (name_given above target wish))) (λ path fits. (g, fits)))

good_modify : (op : ModifyOp) (tree : Content) → names_paths (Modify op) ≡ true → IsGood tree → IfOk (modify op tree) GoodPosted
good_modify op tree all good =
    followed GoodPostedNode GoodPosted (posted_node_of op.target op.fresh tree) (modify_at op) (good_posted_node op.target op.fresh tree (and_parts (is_path op.target) _ all).0 good) (λ at g.
    followed (λ (t : Content). IsGood t) GoodPosted (modify_outcome op at) _ (good_modified op at all g.1 g.0) (λ t h. h))

good_remove : (path : List (List ℕ)) (tree : Content) → IsGood tree → IfOk (remove path tree) GoodPosted
good_remove path tree good = followed (λ (t : Content). IsGood t) GoodPosted (removal_outcome tree path) _ (good_removed tree path good) (λ t h. h)

good_carry : (moves : Bool) (op : CarryOp) (tree : Content) → IsGood tree → IfOk (carry moves op tree) GoodPosted
good_carry moves op tree good = followed (λ (t : Content). IsGood t) GoodPosted (carry_node moves op.replace op.from op.to tree) _ (good_carry_node moves op.replace op.from op.to tree good) (λ t h. h)

pub good_posted : (op : Op) (tree : Content) → names_paths op ≡ true → IsGood tree → IfOk (post_outcome op tree) GoodPosted
good_posted (Nop path) tree all good = good
good_posted (Delete path) tree all good = good_remove path tree good
good_posted (Copy op) tree all good = good_carry false op tree good
good_posted (Move op) tree all good = good_carry true op tree good
good_posted (Modify op) tree all good = good_modify op tree all good

pub good_after : (op : Op) (tree : Content) → names_paths op ≡ true → IsGood tree → IsGood (content_after op tree)
good_after op tree all good = go (post_outcome op tree) (good_posted op tree all good)
  where
    go : (o : ApplyOutcome PostEffect) → IfOk o GoodPosted → IsGood (content_after_post tree o)
    go (Ok done) g = g
    go (Err fault) g = good
