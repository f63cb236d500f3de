-- A property that a change sets has its value after it, unless a later one is set at its place.
use Rattle.std.proofs.Common.{◌≡◌, ◌≢◌, ◌∙◌, ap, sym, refl, subst, ℕ, List, [], ◌∷◌, ◌++◌, Option, Some, None, length, Bool, true, false, cond}
use Rattle.std.specs.Prelude.{◌==◌, ◌||◌, IfOk, Result, Ok, Err, is_some, option_and_then, option_map, unwrap_or}
use Rattle.std.specs.Cmp.{eq_by_cmp_equiv}
use Rattle.std.specs.Cmp.Lexicographic.{nat_list_cmp_total}
use Rattle.std.specs.Ordering.{eq_by_cmp}
use Rattle.std.proofs.lemmas.Bool.{true≢false, false≢true}
use Rattle.sp_base.specs.Outcomes.{◌>>=◌}
use Rattle.sp_base.specs.Names.{by_name}
use Rattle.sp_base.specs.declared.hint.ValueFault.{ValueFault}
use Rattle.sp_base.specs.declared.value.Value.{Value}
use Rattle.resource_tree.specs.declared.nodes.Node.{Node}
use Rattle.resource_tree.specs.declared.places.Place.{Place}
use Rattle.resource_tree.specs.declared.faults.TreeFault.TheVariants.{Taken}
use Rattle.resource_tree.specs.Content.{Content, empty_node, name_of, node_at, parent_of, prop_at, same_path, kid}
use Rattle.resource_tree.specs.Changes.{change_at, create_fault, creation, order_fault, reordering, set_fault, update, with_order, with_value}
use Rattle.resource_tree.proofs.PathLemmas.{same_path_self}
use Rattle.resource_tree.proofs.NodeLookups.{node_at-change_at}
use Rattle.resource_tree.proofs.Creation.{some_from}
use Rattle.resource_tree.proofs.Update.{can_set, prop_at-with_value}
use Rattle.post_plan.specs.declared.operation.ModifyOp.{ModifyOp}
use Rattle.post_plan.specs.declared.operation.PropSet.{PropSet}
use Rattle.post_plan.specs.declared.operation.Op.TheVariants.{Modify}
use Rattle.post_apply.specs.declared.fault.ApplyFault.TheVariants.{Tree}
use Rattle.post_apply.specs.Steps.{ApplyOutcome, in_turn, creation_outcome, path_of_spot, changed_unless_fault, with_node, with_nodes_below, with_way}
use Rattle.post_apply.specs.Removals.{delete_at}
use Rattle.post_apply.specs.Values.{named_outcome, put_at, put_on_way, set_at, hinted_value}
use Rattle.post_apply.specs.Carries.{carry_at, property_at}
use Rattle.post_apply.specs.Posting.{PostEffect, PostedNode, content_placed, modify_at, modify_outcome, post_outcome, posted_node_of}
use Rattle.post_apply.proofs.GoodLemmas.{by_test, followed, okay, refused}
use Rattle.post_laws.specs.Places.{set_path}
use Rattle.post_laws.specs.Laws.{HasItsValueUnlessSetLater}
use Rattle.post_laws.specs.Decided.{HasItsValue, is_set_at}
use Rattle.post_laws.proofs.StepLemmas.{any_is, full_spot, unless_holds, weaker, when}
use Rattle.post_laws.proofs.PropertyLemmas.{not_root, nothing_free, prop_changed, prop_inserted, prop_put}

module _ (path : List (List ℕ)) (value : Value) where
  -- the property at the path has the value
  abbrev Has : Content → Type 0
  Has t = property_at t path ≡ Some value

  abbrev Stays : Content → Type 0
  Stays t = (path ≢ []) × Has t

  has_created : (t : Content) (x : List (List ℕ)) → node_at t x ≡ None → Has t → Has (creation t x empty_node)
  has_created t x free has = prop_inserted path t x other ∙ has
    where
      other : parent_of path ≢ x
      other e = false≢true (ap is_some (sym (ap (option_and_then (λ (node : Node). prop_at node (name_of path))) (ap (node_at t) e ∙ free)) ∙ has))

  has_node : (t : Content) (x : List (List ℕ)) → Stays t → IfOk (with_node t x) Stays
  has_node t x stays =
      by_test Stays (is_some (node_at t x)) (okay t) (creation_outcome t x) (λ _. stays) (λ _.
      unless_holds Stays (create_fault t x) (creation t x empty_node) (λ allowed. (stays.0, has_created t x (nothing_free t x allowed).0 stays.1)))

  has_below : (names at : List (List ℕ)) (t : Content) → Stays t → IfOk (with_nodes_below at names t) Stays
  unfolding with_nodes_below
  has_below [] at t stays = stays
  has_below (name ∷ names) at t stays = followed Stays Stays (with_node t (kid at name)) (with_nodes_below (kid at name) names) (has_node t (kid at name) stays) (λ u s. has_below names (kid at name) u s)

  has_way : (at : List (List ℕ)) (t : Content) → Stays t → IfOk (with_way at t) Stays
  has_way at t stays = has_below at [] t stays

  -- another property is set
  has_put : (t : Content) (other : List (List ℕ)) (next : Value) → same_path other path ≡ false → Stays t → IfOk (put_at t other next) Stays
  has_put t other next apart stays =
      by_test Stays (length other == 0) (refused (Tree (Taken other))) (changed_unless_fault (set_fault t (parent_of other) (name_of other)) (update t (parent_of other) (name_of other) next)) (λ _. tt) (λ deep.
      unless_holds Stays (set_fault t (parent_of other) (name_of other)) (update t (parent_of other) (name_of other) next) (λ _.
      (stays.0, prop_put path t other next (λ e. true≢false (sym (same_path_self path) ∙ ap (λ (p : List (List ℕ)). same_path p path) (sym e) ∙ apart)) (not_root other deep) stays.0 ∙ stays.1)))

  has_on_way : (t : Content) (other : List (List ℕ)) (next : Value) → same_path other path ≡ false → Stays t → IfOk (put_on_way t other next) Stays
  has_on_way t other next apart stays = followed Stays Stays (with_way (parent_of other) t) (λ u. put_at u other next) (has_way (parent_of other) t stays) (λ u s. has_put u other next apart s)

  has_set : (node : List (List ℕ)) (t : Content) (set : PropSet) → same_path (set_path node set) path ≡ false → Stays t → IfOk (set_at node t set) Stays
  has_set node t set apart stays =
      followed (λ (v : Value). v ≡ v) Stays (named_outcome (name_of set.spot.path) (hinted_value set.hint set.words)) (λ next. path_of_spot node set.spot >>= λ other. put_on_way t other next) (any_is _) (λ next _.
      followed (λ (p : List (List ℕ)). p ≡ set_path node set) Stays (path_of_spot node set.spot) (λ other. put_on_way t other next) (full_spot node set.spot) (λ other is.
      has_on_way t other next (ap (λ (p : List (List ℕ)). same_path p path) is ∙ apart) stays))

  neither : (a b : Bool) → (a || b) ≡ false → (a ≡ false) × (b ≡ false)
  neither true b e = absurd (true≢false e)
  neither false b e = (refl, e)

  has_sets : (node : List (List ℕ)) (sets : List PropSet) (t : Content) → is_set_at node path sets ≡ false → Stays t → IfOk (in_turn (set_at node) sets t) Stays
  unfolding in_turn
  has_sets node [] t none stays = stays
  has_sets node (set ∷ sets) t none stays =
      let parts = neither (same_path (set_path node set) path) (is_set_at node path sets) none in
      followed Stays Stays (set_at node t set) (in_turn (set_at node) sets) (has_set node t set parts.0 stays) (λ u s. has_sets node sets u parts.1 s)

  has_placed : (node : List (List ℕ)) (place : Option Place) (t : Content) → Stays t → IfOk (content_placed node place t) Stays
  has_placed node None t stays = stays
  has_placed node (Some place) t stays =
      unless_holds Stays (order_fault t node place) (reordering t node place) (λ _. (stays.0, prop_changed path t (parent_of node) (with_order (name_of node) place) (λ _ _. refl) ∙ stays.1))

  -- the property itself is set
  own_put : (t : Content) → IfOk (put_at t path value) Stays
  own_put t =
      by_test Stays (length path == 0) (refused (Tree (Taken path))) (changed_unless_fault (set_fault t (parent_of path) (name_of path)) (update t (parent_of path) (name_of path) value)) (λ _. tt) (λ deep.
      unless_holds Stays (set_fault t (parent_of path) (name_of path)) (update t (parent_of path) (name_of path) value) (λ allowed. (not_root path deep, own allowed)))
    where
      own : set_fault t (parent_of path) (name_of path) ≡ None → Has (update t (parent_of path) (name_of path) value)
      own allowed =
          let can = can_set t (parent_of path) (name_of path) allowed in
          let node : Node = unwrap_or (node_at t (parent_of path)) empty_node in
          let was : node_at t (parent_of path) ≡ Some node = some_from (node_at t (parent_of path)) empty_node can.there in
          let self : same_path (parent_of path) (parent_of path) ≡ true = same_path_self (parent_of path) in
          let change = with_value (name_of path) value in
          let found : node_at (change_at t (parent_of path) change) (parent_of path) ≡ Some (change node) =
          node_at-change_at t (parent_of path) change (parent_of path)
          ∙ ap (λ b. cond b (option_map change (node_at t (parent_of path))) (node_at t (parent_of path))) self ∙ ap (option_map change) was in
          let named : eq_by_cmp by_name (name_of path) (name_of path) ≡ true = (eq_by_cmp_equiv nat_list_cmp_total).refl (name_of path) in
          ap (option_and_then (λ (n : Node). prop_at n (name_of path))) found ∙ prop_at-with_value (name_of path) value node (name_of path) ∙ ap (λ b. cond b (Some value) (prop_at node (name_of path))) named

  own_on_way : (t : Content) → IfOk (put_on_way t path value) Stays
  own_on_way t = followed (λ (u : Content). u ≡ u) Stays (with_way (parent_of path) t) (λ u. put_at u path value) (any_is _) (λ u _. own_put u)

-- ---- a property among those that are set

-- it is set, and none of the later ones is at its place
set_and_left : (node : List (List ℕ)) (set : PropSet) (later : List PropSet) (place : Option Place) (t : Content) → is_set_at node (set_path node set) later ≡ false
    → IfOk (in_turn (set_at node) (set ∷ later) t >>= content_placed node place) (HasItsValue node set)
unfolding in_turn
set_and_left node set later place t none = go (hinted_value set.hint set.words) refl
  where
    set_as : Result Value ValueFault → ApplyOutcome Content
    set_as r = named_outcome (name_of set.spot.path) r >>= λ value. path_of_spot node set.spot >>= λ path. put_on_way t path value

    then_has : (value : Value) → hinted_value set.hint set.words ≡ Ok value → (u : Content) → IfOk (content_placed node place u) (Stays (set_path node set) value) → IfOk (content_placed node place u) (HasItsValue node set)
    then_has value e u stays = weaker (Stays (set_path node set) value) (HasItsValue node set) (content_placed node place u) (λ w s. record { value = value; of_words = e; there = s.1 }) stays

    go : (r : Result Value ValueFault) → hinted_value set.hint set.words ≡ r → IfOk ((set_as r >>= in_turn (set_at node) later) >>= content_placed node place) (HasItsValue node set)
    go (Err fault) e = tt
    go (Ok value) e =
        let path : List (List ℕ) = set_path node set in
        followed (Stays path value) (HasItsValue node set) (set_as (Ok value) >>= in_turn (set_at node) later) (content_placed node place)
        (followed (Stays path value) (Stays path value) (set_as (Ok value)) (in_turn (set_at node) later)
        (followed (λ (p : List (List ℕ)). p ≡ path) (Stays path value) (path_of_spot node set.spot) (λ p. put_on_way t p value) (full_spot node set.spot) (λ p is.
        subst (λ (at : List (List ℕ)). IfOk (put_on_way t at value) (Stays path value)) (sym is) (own_on_way path value t)))
        (λ u stays. has_sets path value node later u none stays))
        (λ u stays. then_has value e u (has_placed path value node place u stays))

-- the sets before it may do what they do
after_others : (node : List (List ℕ)) (before : List PropSet) (set : PropSet) (later : List PropSet) (place : Option Place) (t : Content) → is_set_at node (set_path node set) later ≡ false
    → IfOk (in_turn (set_at node) (before ++ set ∷ later) t >>= content_placed node place) (HasItsValue node set)
unfolding in_turn
after_others node [] set later place t none = set_and_left node set later place t none
after_others node (first ∷ before) set later place t none = go (set_at node t first) (λ u. after_others node before set later place u none)
  where
    go : (o : ApplyOutcome Content) → ((u : Content) → IfOk (in_turn (set_at node) (before ++ set ∷ later) u >>= content_placed node place) (HasItsValue node set))
        → IfOk ((o >>= in_turn (set_at node) (before ++ set ∷ later)) >>= content_placed node place) (HasItsValue node set)
    go (Ok u) rest = rest u
    go (Err fault) rest = tt

set_in_change : (op : ModifyOp) (at : PostedNode) (before later : List PropSet) (set : PropSet) → op.sets ≡ before ++ set ∷ later → is_set_at at.node (set_path at.node set) later ≡ false → IfOk (modify_outcome op at) (HasItsValue at.node set)
set_in_change op at before later set are none =
    let Any : Content → Type 0 = λ (t : Content). t ≡ t in
    let Its = HasItsValue at.node set in
    followed Any Its (with_way at.node at.content) _ (any_is _) (λ made _.
    followed Any Its (in_turn (delete_at at.node) op.deletes made) _ (any_is _) (λ less _.
    followed Any Its (in_turn (carry_at true at.node) op.moves less) _ (any_is _) (λ moved _.
    followed Any Its (in_turn (carry_at false at.node) op.copies moved) _ (any_is _) (λ copied _.
    subst (λ (sets : List PropSet). IfOk (in_turn (set_at at.node) sets copied >>= content_placed at.node op.place) Its) (sym are) (after_others at.node before set later op.place copied none)))))

-- what is set in an accepted change has its value
pub has_its_value : (op : ModifyOp) (tree : Content) (before later : List PropSet) (set : PropSet) → op.sets ≡ before ++ set ∷ later
    → IfOk (post_outcome (Modify op) tree) (HasItsValueUnlessSetLater set later)
has_its_value op tree before later set are =
    let Q : PostEffect → Type 0 = HasItsValueUnlessSetLater set later in
    followed (λ (at : PostedNode). at ≡ at) Q (posted_node_of op.target op.fresh tree) (modify_at op) (any_is _) (λ at _.
    followed (λ (t : Content). is_set_at at.node (set_path at.node set) later ≡ false → HasItsValue at.node set t) Q (modify_outcome op at) _
    (when (HasItsValue at.node set) (is_set_at at.node (set_path at.node set) later ≡ false) (modify_outcome op at) (set_in_change op at before later set are))
    (λ t h. h))
