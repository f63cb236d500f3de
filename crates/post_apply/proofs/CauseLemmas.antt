-- No step of a POST is refused as out of memory.
use Rattle.std.proofs.Common.{◌≡◌, refl, ℕ, List, [], ◌∷◌, ◌++◌, Option, Some, None, length, Bool, true, false, cond}
use Rattle.std.specs.Prelude.{◌==◌, ◌+◌, ◌||◌, ◌&&◌, IfErr, IfSome, Result, Ok, Err, is_none, is_some, nat_le, nat_lt, not}
use Rattle.sp_base.specs.Outcomes.{◌>>=◌}
use Rattle.sp_base.specs.Paths.{is_under, path_or_none}
use Rattle.sp_base.specs.declared.value.Value.{Value}
use Rattle.sp_base.specs.declared.hint.ValueFault.{ValueFault}
use Rattle.resource_tree.specs.declared.places.Place.{Place}
use Rattle.resource_tree.specs.declared.faults.TreeFault.{TreeFault}
use Rattle.resource_tree.specs.Content.{Content, empty_node, kid, most_nodes, name_of, node_at, parent_of}
use Rattle.resource_tree.specs.Changes.{create_fault, creation, fixed_fault, has_place_at, has_prop_at, order_fault, removal, reordering, set_fault, update}
use Rattle.resource_tree.specs.Moves.{copy, copy_fault, ends_fault, first_fault, is_too_deep, move_fault, part, part_size_fault, relocation, target_fault}
use Rattle.resource_tree.specs.declared.faults.TreeFault.TheVariants.{Taken, TooDeep}
use Rattle.post_plan.specs.declared.spot.Spot.{Spot}
use Rattle.post_plan.specs.declared.spot.Carry.{Carry}
use Rattle.post_plan.specs.declared.operation.ModifyOp.{ModifyOp}
use Rattle.post_plan.specs.declared.operation.NameWish.{NameWish}
use Rattle.post_plan.specs.declared.operation.PropSet.{PropSet}
use Rattle.post_plan.specs.declared.operation.Op.{Op}
use Rattle.post_plan.specs.declared.operation.Op.TheVariants.{Nop, Delete, Copy, Move, Modify}
use Rattle.post_apply.specs.declared.fault.ApplyFault.{ApplyFault}
use Rattle.post_apply.specs.declared.fault.ApplyFault.TheVariants.{Tree}
use Rattle.post_apply.specs.Laws.{is_tree_out_of_memory, is_post_out_of_memory}
use Rattle.post_apply.specs.Steps.{ApplyOutcome, in_turn, creation_outcome, or_too_deep, path_of_spot, changed_unless_fault, with_node, with_nodes_below, with_way}
use Rattle.post_apply.specs.Removals.{delete_at, deletion_outcome, removal_outcome, without_property}
use Rattle.post_apply.specs.Values.{named_outcome, put_at, put_on_way, set_at, hinted_value}
use Rattle.post_apply.specs.Carries.{bring, bring_node, bring_value, carry_outcome, carry_at, carry_fault, carry_node, ends_at_root, outcome_without_goal, content_left, property_at, replacement_outcome, unless}
use Rattle.post_apply.specs.Names.{name_given}
use Rattle.post_apply.specs.Posting.{PostedNode, carry, modify_outcome, modify, modify_at, content_placed, post_outcome, posted_node, posted_node_of}
use Rattle.post_apply.proofs.GoodLemmas.{okay, refused}

-- ---- faults of the tree

abbrev Known : Option TreeFault → Type 0
Known o = IfSome o (λ (f : TreeFault). is_tree_out_of_memory f ≡ false)

either : (b : Bool) (one other : Option TreeFault) → Known one → Known other → Known (cond b one other)
either true one other this that = this
either false one other this that = that

first_known : (one other : Option TreeFault) → Known one → Known other → Known (first_fault one other)
first_known None other a b = b
first_known (Some fault) other a b = a

create_known : (tree : Content) (path : List (List ℕ)) → Known (create_fault tree path)
create_known tree path =
    either (is_none (node_at tree (parent_of path))) _ _ refl
    (either (is_some (node_at tree path)) _ _ refl (either (has_prop_at tree (parent_of path) (name_of path)) _ _ refl (either (nat_le most_nodes (length tree)) _ _ refl tt)))

fixed_known : (tree : Content) (path : List (List ℕ)) → Known (fixed_fault tree path)
fixed_known tree path = either (is_none (node_at tree path)) _ _ refl (either (length path == 0) _ _ refl tt)

set_known : (tree : Content) (path : List (List ℕ)) (name : List ℕ) → Known (set_fault tree path name)
set_known tree path name = either (is_none (node_at tree path)) _ _ refl (either (is_some (node_at tree (kid path name))) _ _ refl tt)

order_known : (tree : Content) (path : List (List ℕ)) (place : Place) → Known (order_fault tree path place)
order_known tree path place = either (is_none (node_at tree path)) _ _ refl (either (length path == 0) _ _ refl (either (has_place_at tree path place) _ _ tt refl))

target_known : (tree : Content) (from to : List (List ℕ)) → Known (target_fault tree from to)
target_known tree from to =
    either (is_none (node_at tree from)) _ _ refl
    (either (is_none (node_at tree (parent_of to))) _ _ refl
    (either (length to == 0) _ _ refl
    (either (is_under to from || is_under from to) _ _ refl (either (is_some (node_at tree to)) _ _ refl (either (has_prop_at tree (parent_of to) (name_of to)) _ _ refl tt)))))

size_known : (tree : Content) (from to : List (List ℕ)) → Known (part_size_fault tree from to)
size_known tree from to = either (is_too_deep tree from to) _ _ refl (either (nat_lt most_nodes (length tree + length (part tree from))) _ _ refl tt)

copy_known : (tree : Content) (from to : List (List ℕ)) → Known (copy_fault tree from to)
copy_known tree from to = first_known (target_fault tree from to) (part_size_fault tree from to) (target_known tree from to) (size_known tree from to)

ends_known : (tree : Content) (from to : List (List ℕ)) → Known (ends_fault tree from to)
ends_known tree from to = either (is_none (node_at tree from)) _ _ refl (either (is_none (node_at tree (parent_of to))) _ _ refl (either (length from == 0) _ _ refl (target_known tree from to)))

move_known : (tree : Content) (from to : List (List ℕ)) → Known (move_fault tree from to)
move_known tree from to = first_known (ends_fault tree from to) (cond (is_too_deep tree from to) (Some TooDeep) None) (ends_known tree from to) (either (is_too_deep tree from to) _ _ refl tt)

-- ---- steps

abbrev Told : {A : Type 0} → ApplyOutcome A → Type 0
Told o = IfErr o (λ (e : ApplyFault). is_post_out_of_memory e ≡ false)

chained : {A B : Type 0} (o : ApplyOutcome A) (f : A → ApplyOutcome B) → Told o → ((x : A) → Told (f x)) → Told (o >>= f)
chained (Ok x) f was next = next x
chained (Err e) f was next = was

by_test : {A : Type 0} (b : Bool) (one other : ApplyOutcome A) → Told one → Told other → Told (cond b one other)
by_test true one other this that = this
by_test false one other this that = that

unless_tree : (fault : Option TreeFault) (changed : Content) → Known fault → Told (changed_unless_fault fault changed)
unless_tree None changed known = tt
unless_tree (Some fault) changed known = known

turns : {X : Type 0} (step : Content → X → ApplyOutcome Content) → ((tree : Content) (x : X) → Told (step tree x)) → (xs : List X) (tree : Content) → Told (in_turn step xs tree)
unfolding in_turn
turns step told [] tree = tt
turns step told (x ∷ more) tree = chained (step tree x) (in_turn step more) (told tree x) (λ t. turns step told more t)

made_told : (tree : Content) (path : List (List ℕ)) → Told (creation_outcome tree path)
made_told tree path = unless_tree (create_fault tree path) (creation tree path empty_node) (create_known tree path)

node_told : (tree : Content) (path : List (List ℕ)) → Told (with_node tree path)
node_told tree path = by_test (is_some (node_at tree path)) (okay tree) (creation_outcome tree path) tt (made_told tree path)

below_told : (names path : List (List ℕ)) (tree : Content) → Told (with_nodes_below path names tree)
unfolding with_nodes_below
below_told [] path tree = tt
below_told (name ∷ names) path tree = chained (with_node tree (kid path name)) (with_nodes_below (kid path name) names) (node_told tree (kid path name)) (λ t. below_told names (kid path name) t)

way_told : (path : List (List ℕ)) (tree : Content) → Told (with_way path tree)
way_told path tree = below_told path [] tree

deep_told : (o : Option (List (List ℕ))) → Told (or_too_deep o)
deep_told (Some path) = tt
deep_told None = refl

spot_told : (node : List (List ℕ)) (spot : Spot) → Told (path_of_spot node spot)
spot_told node spot = by_test spot.at_target (or_too_deep (path_or_none (node ++ spot.path))) (okay spot.path) (deep_told _) tt

removed_told : (tree : Content) (path : List (List ℕ)) → Told (removal_outcome tree path)
removed_told tree path = unless_tree (fixed_fault tree path) (removal tree path) (fixed_known tree path)

deleted_told : (tree : Content) (path : List (List ℕ)) → Told (deletion_outcome tree path)
deleted_told tree path = by_test (is_some (node_at tree path)) (removal_outcome tree path) (okay (without_property tree path)) (removed_told tree path) tt

delete_told : (node : List (List ℕ)) (tree : Content) (spot : Spot) → Told (delete_at node tree spot)
delete_told node tree spot = chained (path_of_spot node spot) (deletion_outcome tree) (spot_told node spot) (λ path. deleted_told tree path)

put_told : (tree : Content) (path : List (List ℕ)) (value : Value) → Told (put_at tree path value)
put_told tree path value =
    by_test (length path == 0) (refused (Tree (Taken path))) (changed_unless_fault (set_fault tree (parent_of path) (name_of path)) (update tree (parent_of path) (name_of path) value)) refl
    (unless_tree (set_fault tree (parent_of path) (name_of path)) (update tree (parent_of path) (name_of path) value) (set_known tree (parent_of path) (name_of path)))

named_told : (name : List ℕ) (value : Result Value ValueFault) → Told (named_outcome name value)
named_told name (Ok value) = tt
named_told name (Err fault) = refl

on_way_told : (tree : Content) (path : List (List ℕ)) (value : Value) → Told (put_on_way tree path value)
on_way_told tree path value = chained (with_way (parent_of path) tree) (λ t. put_at t path value) (way_told (parent_of path) tree) (λ t. put_told t path value)

set_told : (node : List (List ℕ)) (tree : Content) (set : PropSet) → Told (set_at node tree set)
set_told node tree set =
    chained (named_outcome (name_of set.spot.path) (hinted_value set.hint set.words)) (λ value. path_of_spot node set.spot >>= λ path. put_on_way tree path value) (named_told (name_of set.spot.path) (hinted_value set.hint set.words)) (λ value.
    chained (path_of_spot node set.spot) (λ path. put_on_way tree path value) (spot_told node set.spot) (λ path. on_way_told tree path value))

-- ---- copies and moves

carried_told : (moves : Bool) (from to : List (List ℕ)) (tree : Content) → Told (carry_outcome moves from to tree)
carried_told false from to tree = unless_tree (copy_fault tree from to) (copy tree from to) (copy_known tree from to)
carried_told true from to tree = unless_tree (move_fault tree from to) (relocation tree from to) (move_known tree from to)

given_told : (tree : Content) (to : List (List ℕ)) → Told (outcome_without_goal tree to)
given_told tree to = by_test (is_some (node_at tree to)) (removal_outcome tree to) (okay tree) (removed_told tree to) tt

replacing_told : (moves : Bool) (from to : List (List ℕ)) (tree : Content) → Told (replacement_outcome moves from to tree)
replacing_told moves from to tree = chained (outcome_without_goal tree to) (carry_outcome moves from to) (given_told tree to) (λ t. carried_told moves from to t)

abbrev Begun : Option ApplyFault → Type 0
Begun o = IfSome o (λ (f : ApplyFault). is_post_out_of_memory f ≡ false)

either_begun : (b : Bool) (one other : Option ApplyFault) → Begun one → Begun other → Begun (cond b one other)
either_begun true one other this that = this
either_begun false one other this that = that

begun_told : (fault : Option ApplyFault) (tree : Content) → Begun fault → Told (unless fault tree)
begun_told None tree known = tt
begun_told (Some fault) tree known = known

carry_known : (moves replaces : Bool) (tree : Content) (from to : List (List ℕ)) → Begun (carry_fault moves replaces tree from to)
carry_known moves replaces tree from to =
    either_begun (is_none (node_at tree from)) _ _ refl
    (either_begun (ends_at_root moves from to) _ _ refl (either_begun (is_under to from || is_under from to) _ _ refl (either_begun (not replaces && is_some (node_at tree to)) _ _ refl tt)))

carry_node_told : (moves replaces : Bool) (from to : List (List ℕ)) (tree : Content) → Told (carry_node moves replaces from to tree)
carry_node_told moves replaces from to tree =
    chained (unless (carry_fault moves replaces tree from to) tree) (replacement_outcome moves from to) (begun_told (carry_fault moves replaces tree from to) tree (carry_known moves replaces tree from to)) (λ t. replacing_told moves from to t)

value_told : (moves : Bool) (from to : List (List ℕ)) (value : Option Value) (tree : Content) → Told (bring_value moves from to value tree)
value_told moves from to None tree = tt
value_told moves from to (Some value) tree = chained (with_way (parent_of to) tree) (λ t. put_at (content_left moves from t) to value) (way_told (parent_of to) tree) (λ t. put_told (content_left moves from t) to value)

bring_node_told : (moves : Bool) (from to : List (List ℕ)) (tree : Content) → Told (bring_node moves from to tree)
bring_node_told moves from to tree =
    chained (unless (carry_fault moves true tree from to) tree) (λ begun. with_way (parent_of to) begun >>= λ ready. replacement_outcome moves from to ready) (begun_told (carry_fault moves true tree from to) tree (carry_known moves true tree from to)) (λ t.
    chained (with_way (parent_of to) t) (λ ready. replacement_outcome moves from to ready) (way_told (parent_of to) t) (λ ready. replacing_told moves from to ready))

bring_told : (moves : Bool) (from to : List (List ℕ)) (tree : Content) → Told (bring moves from to tree)
bring_told moves from to tree =
    by_test (is_some (node_at tree from)) (bring_node moves from to tree) (bring_value moves from to (property_at tree from) tree) (bring_node_told moves from to tree) (value_told moves from to (property_at tree from) tree)

carry_told : (moves : Bool) (node : List (List ℕ)) (tree : Content) (carry : Carry) → Told (carry_at moves node tree carry)
carry_told moves node tree carry =
    chained (path_of_spot node carry.to) (λ to. path_of_spot node carry.from >>= λ from. bring moves from to tree) (spot_told node carry.to) (λ to.
    chained (path_of_spot node carry.from) (λ from. bring moves from to tree) (spot_told node carry.from) (λ from. bring_told moves from to tree))

-- ---- the operations

placed_told : (node : List (List ℕ)) (place : Option Place) (tree : Content) → Told (content_placed node place tree)
placed_told node None tree = tt
placed_told node (Some place) tree = unless_tree (order_fault tree node place) (reordering tree node place) (order_known tree node place)

modified_told : (op : ModifyOp) (at : PostedNode) → Told (modify_outcome op at)
modified_told op at =
    chained (with_way at.node at.content) _ (way_told at.node at.content) (λ creation_outcome.
    chained (in_turn (delete_at at.node) op.deletes creation_outcome) _ (turns (delete_at at.node) (delete_told at.node) op.deletes creation_outcome) (λ less.
    chained (in_turn (carry_at true at.node) op.moves less) _ (turns (carry_at true at.node) (carry_told true at.node) op.moves less) (λ moved.
    chained (in_turn (carry_at false at.node) op.copies moved) _ (turns (carry_at false at.node) (carry_told false at.node) op.copies moved) (λ copied.
    chained (in_turn (set_at at.node) op.sets copied) _ (turns (set_at at.node) (set_told at.node) op.sets copied) (λ valued. placed_told at.node op.place valued)))))

posted_node_told : (target : List (List ℕ)) (fresh : Option NameWish) (tree : Content) → Told (posted_node_of target fresh tree)
posted_node_told target None tree = tt
posted_node_told target (Some wish) tree =
    chained (with_way target tree) (λ above. or_too_deep (path_or_none (kid target (name_given above target wish))) >>= λ path. okay (posted_node above path)) (way_told target tree) (λ above.
    chained (or_too_deep (path_or_none (kid target (name_given above target wish)))) (λ path. okay (posted_node above path)) (deep_told _) (λ path. tt))

modify_told : (op : ModifyOp) (tree : Content) → Told (modify op tree)
modify_told op tree = chained (posted_node_of op.target op.fresh tree) (modify_at op) (posted_node_told op.target op.fresh tree) (λ at. chained (modify_outcome op at) _ (modified_told op at) (λ t. tt))

pub posted_told : (op : Op) (tree : Content) → Told (post_outcome op tree)
posted_told (Nop path) tree = tt
posted_told (Delete path) tree = chained (removal_outcome tree path) _ (removed_told tree path) (λ t. tt)
posted_told (Copy op) tree = chained (carry_node false op.replace op.from op.to tree) _ (carry_node_told false op.replace op.from op.to tree) (λ t. tt)
posted_told (Move op) tree = chained (carry_node true op.replace op.from op.to tree) _ (carry_node_told true op.replace op.from op.to tree) (λ t. tt)
posted_told (Modify op) tree = modify_told op tree
