-- Content without a fault that isn't too big is a good tree.
use Rattle.std.proofs.Common.{◌≡◌, ℕ, suc, ◌+◌, ◌-◌, ◌<◌, ◌≤◌, Bool, true, false, cond, not, ◌&&◌, ◌||◌, T, ⊎_elim, List, [], ◌∷◌, length, nat_lt, Option, Some, None, is_some, if◌then◌else◌, refl, sym, ap, ◌∙◌, subst, arith, Less}
use Rattle.std.specs.Prelude.{option_and_then, nat_le}
use Rattle.std.specs.Cmp.Lexicographic.{same_text}
use Rattle.std.specs.FinMap.Entries.{is_sorted, below_all, find, length-put}
use Rattle.std.specs.List.{list_any, list_all, AllByRecursion}
use Rattle.std.specs.List.Sorted.{IsStrictlySortedBy}
use Rattle.std.specs.Map.{keys_of}
use Rattle.std.specs.Option.{option_map_or}
use Rattle.std.specs.Ordering.{is_lt}
use Rattle.std.specs.Str.{bytes_eq}
use Rattle.std.proofs.lemmas.Bool.{and_from, cases_Bool, false≢true, or_parts}
use Rattle.std.proofs.lemmas.Option.{none-some, same_Some}
use borrow.Author.Tests.{ltb-false}
use Rattle.serde_json.specs.Data.{Data, null, boolean, number, string, array, object, Members, no_members, member}
use Rattle.serde_json.specs.Find.{get, get_member}
use Rattle.sp_base.specs.Names.{by_name}
use Rattle.sp_base.specs.Paths.{seg_ok}
use Rattle.sp_base.proofs.BoolLemmas.{T_first, T_second, and_first, same_truth}
use Rattle.sp_base.proofs.OrderingLemmas.{by_path_total, less_from_T}
use Rattle.resource_tree.specs.declared.nodes.Node.{Node}
use Rattle.resource_tree.specs.Content.{Content, IsGood, IsTree, IsNodeOf, by_path, node_at, kid, prop_at}
use Rattle.content_json.specs.Names.{is_order, is_content_name, has_bad_name, is_object, is_kid, is_kid_member, kid_names}
use Rattle.content_json.specs.Lists.{data_value}
use Rattle.content_json.specs.Faults.{fault_in, fault_below, own_fault, has_good_order}
use Rattle.content_json.specs.Steps.{member_fault}
use Rattle.content_json.specs.Nodes.{node_of_members, nodes_in, kids_of, is_deeper, is_deeper_below, count_below}
use Rattle.content_json.specs.Ways.{way_end, node_of_value}
use Rattle.content_json.specs.ContentOf.{map_of, is_too_big}
use Rattle.content_json.proofs.NameLemmas.{is_plain-here, has_bad_name-rest, has_bad_name-from_own_fault, has_good_order-from_own_fault, none_of_both, faultless_value}
use Rattle.content_json.proofs.KidLemmas.{all_at, kids_have, kids_within}
use Rattle.content_json.proofs.MapLemmas.{find_is_node_at, find_in_map, map_sorted}
use Rattle.content_json.proofs.DistinctLemmas.{kids_distinct}
use Rattle.content_json.proofs.SizeLemmas.{length-nodes_in, object_fits, shallow_first, shallow_rest}
use Rattle.content_json.specs.Members.{AreSorted, entries_of}
use Rattle.content_json.proofs.InsertLemmas.{get-member}
use Rattle.content_json.proofs.ReturnMembers.{option_or-none}
use Rattle.content_json.proofs.ReturnNodes.{get_below, find_added, read_value}
use Rattle.content_json.proofs.InOrder.{IsInOrder, AreInOrder}
use Rattle.content_json.proofs.WayLemmas.{value_at-kid, node_at_way}

-- ---- what holds of a value on the way

-- a value without a fault, whose members are in order
pub record IsSound (d : Data) : Type 0 where
  pub faultless : fault_in d ≡ None
  pub in_order : IsInOrder d

-- a member of a sound object, but for `:order`
member_sound : (name : List ℕ) (ms : Members) (x : Data) → AreInOrder ms → has_bad_name ms ≡ false → fault_below ms ≡ None → is_order name ≡ false → get_member name ms ≡ Some x
    → IsSound x × (is_content_name name ≡ true)
member_sound name no_members x h plain faultless other is = absurd (none-some x is)
member_sound name (member k d ms) x h plain faultless other is =
    let parts = none_of_both (member_fault k d) (fault_below ms) faultless in
    let got = λ (t : Bool) (e : bytes_eq name k ≡ t). sym (ap (λ b. cond b (Some d) (get_member name ms)) e) ∙ sym (get-member name k d ms) ∙ is in
    ⊎_elim
    (λ e.
    let same : k ≡ name = sym (same_text name k (sym e)) in
    let here : is_order k ≡ false = ap is_order same ∙ other in
    (subst IsSound (same_Some d x (got true e)) (record { faultless = faultless_value k d here parts.0; in_order = h.0 }), ap is_content_name (sym same) ∙ is_plain-here k d ms plain here))
    (λ e. member_sound name ms x h.1 (has_bad_name-rest k d ms plain) parts.1 other (got false e))
    (cases_Bool (bytes_eq name k))

sound_step : (name : List ℕ) (d x : Data) → IsSound d → is_order name ≡ false → get name d ≡ Some x → IsSound x × (is_content_name name ≡ true)
sound_step name null x h other is = absurd (none-some x is)
sound_step name (boolean b) x h other is = absurd (none-some x is)
sound_step name (number n) x h other is = absurd (none-some x is)
sound_step name (string s) x h other is = absurd (none-some x is)
sound_step name (array ds) x h other is = absurd (none-some x is)
sound_step name (object ms) x h other is =
    let parts = none_of_both (own_fault ms) (fault_below ms) h.faultless in
    member_sound name ms x h.in_order.1 (has_bad_name-from_own_fault ms parts.0) parts.1 other is

pub sound_way : (way : List (List ℕ)) (d e : Data) → IsSound d → way_end way d ≡ Some e → IsSound e × (list_all seg_ok way ≡ true)
sound_way [] d e h is = (subst IsSound (same_Some d e is) h, refl)
sound_way (name ∷ way) d e h is =
    elim (is_order name) as (λ t. is_order name ≡ t → (if t then None else option_and_then (way_end way) (get name d)) ≡ Some e → IsSound e × (list_all seg_ok (name ∷ way) ≡ true)) [
      | true ↦ λ _ g. absurd (none-some e g)
      | false ↦ λ other g. elim (get name d) as (λ o. get name d ≡ o → option_and_then (way_end way) o ≡ Some e → IsSound e × (list_all seg_ok (name ∷ way) ≡ true)) [
        | None ↦ λ _ none. absurd (none-some e none)
        | Some x ↦ λ at more.
            let step = sound_step name d x h other at in
            let rest = sound_way way x e step.0 more in
            (rest.0, and_from (seg_ok name) (list_all seg_ok way) (and_first (seg_ok name) _ step.1) rest.1)
      ] refl g
    ] refl is

-- ---- no object stands too deep

member_shallow : (levels : ℕ) (name : List ℕ) (ms : Members) (x : Data) → is_deeper_below levels ms ≡ false → is_order name ≡ false → get_member name ms ≡ Some x → is_deeper levels x ≡ false
member_shallow levels name no_members x h other is = absurd (none-some x is)
member_shallow levels name (member k d ms) x h other is =
    let got = λ (t : Bool) (e : bytes_eq name k ≡ t). sym (ap (λ b. cond b (Some d) (get_member name ms)) e) ∙ sym (get-member name k d ms) ∙ is in
    ⊎_elim
    (λ e.
    let here : is_order k ≡ false = ap is_order (sym (same_text name k (sym e))) ∙ other in
    ap (is_deeper levels) (sym (same_Some d x (got true e))) ∙ sym (ap (λ t. if t then false else is_deeper levels d) here) ∙ shallow_first levels k d ms h)
    (λ e. member_shallow levels name ms x (shallow_rest levels k d ms h) other (got false e))
    (cases_Bool (bytes_eq name k))

step_shallow : (levels : ℕ) (name : List ℕ) (d x : Data) → is_deeper levels d ≡ false → is_order name ≡ false → get name d ≡ Some x → (0 < levels) × (is_deeper (levels - 1) x ≡ false)
step_shallow levels name null x h other is = absurd (none-some x is)
step_shallow levels name (boolean b) x h other is = absurd (none-some x is)
step_shallow levels name (number n) x h other is = absurd (none-some x is)
step_shallow levels name (string s) x h other is = absurd (none-some x is)
step_shallow levels name (array ds) x h other is = absurd (none-some x is)
step_shallow levels name (object ms) x h other is = let fits = object_fits levels ms h in (fits.0, member_shallow (levels - 1) name ms x fits.1 other is)

pub way_short : (way : List (List ℕ)) (levels : ℕ) (d : Data) (ms : Members) → is_deeper levels d ≡ false → way_end way d ≡ Some (object ms) → length way < levels
way_short [] levels d ms h is = (object_fits levels ms (ap (is_deeper levels) (sym (same_Some d (object ms) is)) ∙ h)).0
way_short (name ∷ way) levels d ms h is =
    elim (is_order name) as (λ t. is_order name ≡ t → (if t then None else option_and_then (way_end way) (get name d)) ≡ Some (object ms) → length (name ∷ way) < levels) [
      | true ↦ λ _ g. absurd (none-some (object ms) g)
      | false ↦ λ other g. elim (get name d) as (λ o. get name d ≡ o → option_and_then (way_end way) o ≡ Some (object ms) → length (name ∷ way) < levels) [
        | None ↦ λ _ none. absurd (none-some (object ms) none)
        | Some x ↦ λ at more.
            let step = step_shallow levels name d x h other at in
            let rest = way_short way (levels - 1) x ms step.1 more in
            omega (arith, rest, step.0)
      ] refl g
    ] refl is

-- ---- the kids of an object

kid_at : (b : Bool) (o : Option Data) → is_some (option_and_then node_of_value (if b then None else option_and_then (way_end []) o)) ≡ (not b && option_map_or is_object o false)
kid_at true o = refl
kid_at false None = refl
kid_at false (Some null) = refl
kid_at false (Some (boolean b)) = refl
kid_at false (Some (number n)) = refl
kid_at false (Some (string s)) = refl
kid_at false (Some (array ds)) = refl
kid_at false (Some (object ms)) = refl

either_name : (kid same rest : Bool) (name : List ℕ) (k : List ℕ) (names : List (List ℕ)) → bytes_eq name k ≡ same → list_any (bytes_eq name) names ≡ rest → list_any (bytes_eq name) (if kid then k ∷ names else names) ≡ ((kid && same) || rest)
either_name true same rest name k names e r = rw (e, r) refl
either_name false same rest name k names e r = r

no_kid : (b : Bool) → (not b && option_map_or is_object None false) ≡ false
no_kid true = refl
no_kid false = refl

alone : (a b : Bool) → a ≡ b → ((a && true) || false) ≡ b
alone true b e = e
alone false b e = e

other_alone : (a b : Bool) → ((a && false) || b) ≡ b
other_alone true b = refl
other_alone false b = refl

-- a name is a kid's exactly where its member is an object
pub kid_names_are : (name : List ℕ) (ms : Members) → AreSorted ms → list_any (bytes_eq name) (kid_names ms) ≡ (not (is_order name) && is_kid ms name)
kid_names_are name no_members s = sym (no_kid (is_order name))
kid_names_are name (member k d ms) s =
    let below = T_first (below_all by_name k (entries_of ms)) (is_sorted by_name (entries_of ms)) s in
    let later = kid_names_are name ms (T_second (below_all by_name k (entries_of ms)) (is_sorted by_name (entries_of ms)) s) in
    let found = λ (o : Option Data). not (is_order name) && option_map_or is_object o false in
    let got = λ (t : Bool) (e : bytes_eq name k ≡ t). get-member name k d ms ∙ ap (λ b. cond b (Some d) (get_member name ms)) e in
    ⊎_elim
    (λ e.
    let same : name ≡ k = same_text name k (sym e) in
    let none : get_member name ms ≡ None = ap (λ n. get_member n ms) same ∙ get_below k ms below in
    either_name (is_kid_member k d) true false name k (kid_names ms) e (later ∙ ap found none ∙ no_kid (is_order name))
    ∙ alone (is_kid_member k d) (found (Some d)) (ap (λ n. not (is_order n) && is_object d) (sym same)) ∙ ap found (sym (got true e)))
    (λ e. either_name (is_kid_member k d) false (found (get_member name ms)) name k (kid_names ms) e later ∙ other_alone (is_kid_member k d) (found (get_member name ms)) ∙ ap found (sym (got false e)))
    (cases_Bool (bytes_eq name k))

-- so it is among the kids in their order
kids_are : (name : List ℕ) (ms : Members) → AreSorted ms → has_good_order ms ≡ true → list_any (bytes_eq name) (kids_of ms) ≡ (not (is_order name) && is_kid ms name)
kids_are name ms s good =
    same_truth (list_any (bytes_eq name) (kids_of ms)) (list_any (bytes_eq name) (kid_names ms)) (λ e. all_at (λ k. list_any (bytes_eq k) (kid_names ms)) name (kids_of ms) (kids_within ms good) e) (λ e. kids_have name ms e)
    ∙ kid_names_are name ms s

-- ---- the properties of an object

pub props_are : (name : List ℕ) (ms : Members) → AreSorted ms → prop_at (node_of_members ms) name ≡ read_value name (get_member name ms)
props_are name ms s = find_added ms [] name s ∙ option_or-none (read_value name (get_member name ms))

apart_at : (b : Bool) (o : Option Data) → (not b && option_map_or is_object o false) ≡ true → (if b then None else option_and_then data_value o) ≡ None
apart_at true o h = refl
apart_at false None h = refl
apart_at false (Some null) h = refl
apart_at false (Some (boolean b)) h = absurd (false≢true h)
apart_at false (Some (number n)) h = absurd (false≢true h)
apart_at false (Some (string s)) h = absurd (false≢true h)
apart_at false (Some (array ds)) h = absurd (false≢true h)
apart_at false (Some (object ms)) h = refl

named_at : (name : List ℕ) (ms : Members) → IsSound (object ms) → (b : Bool) (o : Option Data) → is_order name ≡ b → get_member name ms ≡ o → is_some (if b then None else option_and_then data_value o) ≡ true → is_content_name name ≡ true
named_at name ms sound true o other at h = absurd (false≢true h)
named_at name ms sound false None other at h = absurd (false≢true h)
named_at name ms sound false (Some x) other at h = (sound_step name (object ms) x sound other at).1

-- ---- the whole

-- an object stands where a node does
pub object_there : (o : Option Data) (node : Node) → option_and_then node_of_value o ≡ Some node → (ms : Members) × (o ≡ Some (object ms)) × (node ≡ node_of_members ms)
object_there None node h = absurd (none-some node h)
object_there (Some null) node h = absurd (none-some node h)
object_there (Some (boolean b)) node h = absurd (none-some node h)
object_there (Some (number n)) node h = absurd (none-some node h)
object_there (Some (string s)) node h = absurd (none-some node h)
object_there (Some (array ds)) node h = absurd (none-some node h)
object_there (Some (object ms)) node h = (ms, refl, cc)

-- where a kid is, its parent is an object
parent_there : (name : List ℕ) (o : Option Data) → is_some (option_and_then node_of_value (option_and_then (way_end (name ∷ [])) o)) ≡ true → is_some (option_and_then node_of_value o) ≡ true
parent_there name None h = absurd (false≢true h)
parent_there name (Some d) h = by d (is_order name) h
  where
    by : (e : Data) (b : Bool) → is_some (option_and_then node_of_value (if b then None else option_and_then (way_end []) (get name e))) ≡ true → is_some (node_of_value e) ≡ true
    by e true g = absurd (false≢true g)
    by null false g = g
    by (boolean b) false g = g
    by (number n) false g = g
    by (string s) false g = g
    by (array ds) false g = g
    by (object ms) false g = refl

module _ (ms : Members) (sound : IsSound (object ms)) (small : is_too_big ms ≡ false) where
  at_way : (way : List (List ℕ)) → node_at (nodes_in [] (object ms)) way ≡ option_and_then node_of_value (way_end way (object ms))
  at_way way = node_at_way [] way (object ms) sound.in_order

  at_kid : (way : List (List ℕ)) (name : List ℕ) → node_at (nodes_in [] (object ms)) (kid way name) ≡ option_and_then node_of_value (option_and_then (way_end (name ∷ [])) (way_end way (object ms)))
  at_kid way name = at_way (kid way name) ∙ ap (option_and_then node_of_value) (value_at-kid way name (object ms))

  good_node : (way : List (List ℕ)) (ks : Members) → way_end way (object ms) ≡ Some (object ks) → IsNodeOf (node_at (nodes_in [] (object ms))) way (node_of_members ks)
  good_node way ks at =
      let here = sound_way way (object ms) (object ks) sound at in
      let own = (none_of_both (own_fault ks) (fault_below ks) here.0.faultless).0 in
      let good = has_good_order-from_own_fault ks own in
      let sorted = here.0.in_order.0 in
      let short = way_short way 65 (object ms) ks (or_parts (nat_lt 200000 (suc (count_below ms))) (is_deeper_below 64 ms) small).1 at in
      record {
        is_a_path = and_from (list_all seg_ok way) (nat_le (length way) 64) here.1 (le_is (length way) (omega (arith, short)));
        kids = λ name. kids_are name ks sorted good ∙ sym (kid_at (is_order name) (get_member name ks)) ∙ ap (λ o. is_some (option_and_then node_of_value (option_and_then (way_end (name ∷ [])) o))) (sym at) ∙ ap is_some (sym (at_kid way name));
        distinct = kids_distinct ks sorted good;
        apart = λ name among. props_are name ks sorted ∙ apart_at (is_order name) (get_member name ks) (sym (kids_are name ks sorted good) ∙ among);
        names = λ name there. and_first (seg_ok name) _ (named_at name ks here.0 (is_order name) (get_member name ks) refl refl (sym (ap is_some (props_are name ks sorted)) ∙ there));
      }
    where
      le_is : (n : ℕ) → n ≤ 64 → nat_le n 64 ≡ true
      le_is n h = search arith

  good_shape : IsTree (node_at (nodes_in [] (object ms)))
  good_shape = record {
    root = ap is_some (at_way []);
    parents = λ way name there. ap is_some (at_way way) ∙ parent_there name (way_end way (object ms)) (sym (ap is_some (at_kid way name)) ∙ there);
    nodes = λ way node there.
        let found = object_there (way_end way (object ms)) node (sym (at_way way) ∙ there) in
        subst (IsNodeOf (node_at (nodes_in [] (object ms))) way) (sym found.2) (good_node way found.0 found.1);
  }

tree_same : (a b : List (List ℕ) → Option Node) → ((way : List (List ℕ)) → a way ≡ b way) → IsTree a → IsTree b
tree_same a b same t = record {
  root = ap is_some (sym (same [])) ∙ t.root;
  parents = λ way name there. ap is_some (sym (same way)) ∙ t.parents way name (ap is_some (same (kid way name)) ∙ there);
  nodes = λ way node there.
      let n = t.nodes way node (same way ∙ there) in
      record { is_a_path = n.is_a_path; kids = λ name. n.kids name ∙ ap is_some (same (kid way name)); distinct = n.distinct; apart = n.apart; names = n.names };
}

above : (path : List (List ℕ)) (nodes : Content) → T (below_all by_path path nodes) → AllByRecursion (λ p. by_path path p ≡ Less) (keys_of nodes)
above path [] h = tt
above path (e ∷ nodes) h = (less_from_T (by_path path e.0) (T_first (is_lt (by_path path e.0)) (below_all by_path path nodes) h), above path nodes (T_second (is_lt (by_path path e.0)) (below_all by_path path nodes) h))

strictly : (nodes : Content) → T (is_sorted by_path nodes) → IsStrictlySortedBy by_path (keys_of nodes)
unfolding IsStrictlySortedBy
strictly [] h = tt
strictly (e ∷ nodes) h = (above e.0 nodes (T_first (below_all by_path e.0 nodes) (is_sorted by_path nodes) h), strictly nodes (T_second (below_all by_path e.0 nodes) (is_sorted by_path nodes) h))

pub map_at : (nodes : Content) (way : List (List ℕ)) → node_at (map_of nodes) way ≡ node_at nodes way
map_at nodes way = sym (find_is_node_at way (map_of nodes)) ∙ find_in_map way nodes

no_more : (b : Bool) (n m : ℕ) → n ≤ m → cond b n (n + 1) ≤ suc m
no_more true n m h = omega (arith, h)
no_more false n m h = omega (arith, h)

map_size : (nodes : Content) → length (map_of nodes) ≤ length nodes
map_size [] = omega arith
map_size (e ∷ nodes) =
    subst (λ n. n ≤ suc (length nodes)) (sym (length-put by_path by_path_total e.0 e.1 (map_of nodes) (map_sorted nodes)))
    (no_more (is_some (find by_path e.0 (map_of nodes))) (length (map_of nodes)) (length nodes) (map_size nodes))

-- content without a fault that isn't too big makes a tree
pub good_content : (ms : Members) → IsInOrder (object ms) → fault_in (object ms) ≡ None → is_too_big ms ≡ false → IsGood (map_of (nodes_in [] (object ms)))
good_content ms in_order faultless small =
    let nodes = nodes_in [] (object ms) in
    let most : suc (count_below ms) ≤ 200000 = ltb-false 200000 (suc (count_below ms)) (or_parts (nat_lt 200000 (suc (count_below ms))) (is_deeper_below 64 ms) small).0 in
    record {
      ordered = strictly (map_of nodes) (map_sorted nodes);
      size = (let few = map_size nodes in let count = length-nodes_in [] (object ms) in omega (arith, few, count, most));
      shape = tree_same (node_at nodes) (node_at (map_of nodes)) (λ way. sym (map_at nodes way)) (good_shape ms (record { faultless = faultless; in_order = in_order }) small);
    }
