-- Each kid stands once among the kids in their order.
use Rattle.std.proofs.Common.{◌≡◌, ℕ, Bool, true, false, cond, not, ◌&&◌, List, [], ◌∷◌, ◌++◌, Option, Some, None, filter, if◌then◌else◌, unwrap_or, T, refl, sym, ◌∙◌}
use Rattle.std.specs.List.{list_any, filter_map, cons_option, AllByRecursion, IsDistinct}
use Rattle.std.specs.FinMap.Entries.{is_sorted, below_all}
use Rattle.std.specs.Ordering.{is_lt}
use Rattle.std.specs.Option.{option_map_or}
use Rattle.std.specs.Prelude.{option_and_then}
use Rattle.std.specs.Str.{bytes_eq}
use Rattle.std.proofs.lemmas.Bool.{false≢true, and_parts, not-true, or_parts}
use Rattle.std.proofs.lemmas.Map.Keys.{IsDistinct-head, IsDistinct-tail, IsDistinct-cons}
use Rattle.serde_json.specs.Data.{Items, no_items, item, Members, no_members, member}
use Rattle.serde_json.specs.Find.{as_str, as_array, get_member}
use Rattle.sp_base.specs.Names.{by_name}
use Rattle.sp_base.proofs.BoolLemmas.{T_first, T_second}
use Rattle.sp_base.proofs.ListLemmas.{all_append, all_filter, all_weaker}
use Rattle.sp_base.proofs.TextLemmas.{bytes_eq_swapped}
use Rattle.content_json.specs.Names.{order_name, is_kid, is_kid_member, kid_names}
use Rattle.content_json.specs.Lists.{item_list}
use Rattle.content_json.specs.Faults.{names_kids, has_good_order}
use Rattle.content_json.specs.Nodes.{order_names, kids_of}
use Rattle.content_json.proofs.KidLemmas.{good_items}
use Rattle.content_json.specs.Members.{AreSorted, entries_of}
use Rattle.content_json.proofs.InsertLemmas.{tie_is}
use Rattle.content_json.proofs.ReturnMembers.{less_apart}

distinct_append : (xs ys : List (List ℕ)) → IsDistinct bytes_eq xs → IsDistinct bytes_eq ys → AllByRecursion (λ y. list_any (bytes_eq y) xs ≡ false) ys → IsDistinct bytes_eq (xs ++ ys)
distinct_append [] ys g h apart = h
distinct_append (x ∷ xs) ys g h apart =
    let here = all_weaker (λ y. list_any (bytes_eq y) (x ∷ xs) ≡ false) (λ y. bytes_eq x y ≡ false) (λ y e. bytes_eq_swapped x y ∙ (or_parts (bytes_eq y x) (list_any (bytes_eq y) xs) e).0) ys apart in
    let later = all_weaker (λ y. list_any (bytes_eq y) (x ∷ xs) ≡ false) (λ y. list_any (bytes_eq y) xs ≡ false) (λ y e. (or_parts (bytes_eq y x) (list_any (bytes_eq y) xs) e).1) ys apart in
    IsDistinct-cons bytes_eq x (xs ++ ys) (all_append (λ y. bytes_eq x y ≡ false) xs ys (IsDistinct-head bytes_eq x xs g) here) (distinct_append xs ys (IsDistinct-tail bytes_eq x xs g) h later)

distinct_filter : (f : List ℕ → Bool) (xs : List (List ℕ)) → IsDistinct bytes_eq xs → IsDistinct bytes_eq (filter f xs)
distinct_filter f [] h = h
distinct_filter f (x ∷ xs) h =
    let rest = distinct_filter f xs (IsDistinct-tail bytes_eq x xs h) in
    elim (f x) as (λ t. IsDistinct bytes_eq (cond t (x ∷ filter f xs) (filter f xs))) [
      | true ↦ IsDistinct-cons bytes_eq x (filter f xs) (all_filter (λ y. bytes_eq x y ≡ false) f xs (IsDistinct-head bytes_eq x xs h)) rest
      | false ↦ rest
    ]

others_apart : (order kids : List (List ℕ)) → AllByRecursion (λ y. list_any (bytes_eq y) order ≡ false) (filter (λ name. not (list_any (bytes_eq name) order)) kids)
others_apart order [] = tt
others_apart order (k ∷ kids) =
    let f = λ (name : List ℕ). not (list_any (bytes_eq name) order) in
    let rest = others_apart order kids in
    elim (list_any (bytes_eq k) order) as (λ t. list_any (bytes_eq k) order ≡ t → AllByRecursion (λ y. list_any (bytes_eq y) order ≡ false) (cond (not t) (k ∷ filter f kids) (filter f kids))) [
      | true ↦ λ e. rest
      | false ↦ λ e. (e, rest)
    ] refl

-- what `:order` names is named once, and none of it before
named_once : (ms : Members) (before : List (List ℕ)) (ds : Items) → names_kids ms before ds ≡ true
    → IsDistinct bytes_eq (filter_map as_str (item_list ds)) × AllByRecursion (λ y. list_any (λ other. bytes_eq other y) before ≡ false) (filter_map as_str (item_list ds))
unfolding IsDistinct
named_once ms before no_items h = (tt, tt)
named_once ms before (item d ds) h =
    let rest = filter_map as_str (item_list ds) in
    elim (as_str d) as (λ o. option_map_or (λ name. is_kid ms name && not (list_any (λ other. bytes_eq other name) before) && names_kids ms (name ∷ before) ds) o false ≡ true
    → IsDistinct bytes_eq (cons_option o rest) × AllByRecursion (λ y. list_any (λ other. bytes_eq other y) before ≡ false) (cons_option o rest)) [
      | None ↦ λ g. absurd (false≢true g)
      | Some name ↦ λ g.
          let parts = and_parts (is_kid ms name && not (list_any (λ other. bytes_eq other name) before)) (names_kids ms (name ∷ before) ds) g in
          let fresh = not-true (list_any (λ other. bytes_eq other name) before) (and_parts (is_kid ms name) (not (list_any (λ other. bytes_eq other name) before)) parts.0).1 in
          let more = named_once ms (name ∷ before) ds parts.1 in
          let here = all_weaker (λ y. list_any (λ other. bytes_eq other y) (name ∷ before) ≡ false) (λ y. bytes_eq name y ≡ false) (λ y e. (or_parts (bytes_eq name y) (list_any (λ other. bytes_eq other y) before) e).0) rest more.1 in
          let later = all_weaker (λ y. list_any (λ other. bytes_eq other y) (name ∷ before) ≡ false) (λ y. list_any (λ other. bytes_eq other y) before ≡ false) (λ y e. (or_parts (bytes_eq name y) (list_any (λ other. bytes_eq other y) before) e).1) rest more.1 in
          (IsDistinct-cons bytes_eq name rest here more.0, (fresh, later))
    ] h

order_distinct : (ms : Members) → has_good_order ms ≡ true → IsDistinct bytes_eq (order_names ms)
unfolding IsDistinct
order_distinct ms h = order_by (option_and_then as_array (get_member order_name ms)) refl
  where
    order_by : (o : Option Items) → option_and_then as_array (get_member order_name ms) ≡ o → IsDistinct bytes_eq (filter_map as_str (item_list (unwrap_or o no_items)))
    order_by None is = tt
    order_by (Some ds) is = (named_once ms [] ds (good_items ms h ds is)).0

-- the kids after a member have other names
none_after : (name : List ℕ) (ms : Members) → T (below_all by_name name (entries_of ms)) → AllByRecursion (λ k. bytes_eq name k ≡ false) (kid_names ms)
none_after name no_members h = tt
none_after name (member k d ms) h =
    let rest = none_after name ms (T_second (is_lt (by_name name k)) (below_all by_name name (entries_of ms)) h) in
    let apart = sym (tie_is name k) ∙ less_apart (by_name name k) (T_first (is_lt (by_name name k)) (below_all by_name name (entries_of ms)) h) in
    elim (is_kid_member k d) as (λ t. AllByRecursion (λ n. bytes_eq name n ≡ false) (if t then k ∷ kid_names ms else kid_names ms)) [
      | true ↦ (apart, rest)
      | false ↦ rest
    ]

names_distinct : (ms : Members) → AreSorted ms → IsDistinct bytes_eq (kid_names ms)
unfolding IsDistinct
names_distinct no_members h = tt
names_distinct (member k d ms) h =
    let rest = names_distinct ms (T_second (below_all by_name k (entries_of ms)) (is_sorted by_name (entries_of ms)) h) in
    elim (is_kid_member k d) as (λ t. IsDistinct bytes_eq (if t then k ∷ kid_names ms else kid_names ms)) [
      | true ↦ IsDistinct-cons bytes_eq k (kid_names ms) (none_after k ms (T_first (below_all by_name k (entries_of ms)) (is_sorted by_name (entries_of ms)) h)) rest
      | false ↦ rest
    ]

-- no kid stands twice among the kids in their order
pub kids_distinct : (ms : Members) → AreSorted ms → has_good_order ms ≡ true → IsDistinct bytes_eq (kids_of ms)
kids_distinct ms sorted good =
    let order = order_names ms in
    distinct_append order (filter (λ name. not (list_any (bytes_eq name) order)) (kid_names ms)) (order_distinct ms good) (distinct_filter (λ name. not (list_any (bytes_eq name) order)) (kid_names ms) (names_distinct ms sorted)) (others_apart order (kid_names ms))
