-- The kids of an object are its members with objects.
use Rattle.std.proofs.Common.{◌≡◌, ℕ, Bool, true, false, cond, not, ◌&&◌, ◌||◌, ⊎_elim, List, [], ◌∷◌, ◌++◌, Option, Some, None, filter, if◌then◌else◌, unwrap_or, refl, sym, ap, ◌∙◌, subst}
use Rattle.std.specs.List.{list_any, list_all, filter_map, cons_option}
use Rattle.std.specs.Prelude.{option_and_then}
use Rattle.std.specs.Option.{option_map_or}
use Rattle.std.specs.Str.{bytes_eq}
use Rattle.std.specs.Cmp.Lexicographic.{slice_cmp, same_text}
use Rattle.std.specs.FinMap.{nat_cmp-IsAntisymmetric, slice_cmp-IsAntisymmetric}
use Rattle.std.specs.Ordering.{nat_cmp, match_ordering}
use Rattle.std.specs.declared.cmp.Ordering.TheVariants.{Less, Equal, Greater}
use Rattle.std.proofs.lemmas.Bool.{cases_Bool, true≢false, false≢true, and_from, and_parts, or_left, or_right}
use Rattle.std.proofs.lemmas.List.Folds.{list_any-append}
use Rattle.sp_base.proofs.ListLemmas.{list_all_filter}
use Rattle.serde_json.specs.Data.{Data, null, boolean, number, string, array, object, Items, no_items, item, Members, no_members, member}
use Rattle.serde_json.specs.Find.{as_str, as_array, get_member}
use Rattle.content_json.specs.Names.{order_name, is_order, is_object, is_kid_member, kid_names, is_kid}
use Rattle.content_json.specs.Lists.{item_list}
use Rattle.content_json.specs.Faults.{names_kids, has_good_order, is_good_order}
use Rattle.content_json.specs.Nodes.{order_names, kids_of}
use Rattle.content_json.proofs.Under.{bytes_eq_itself}

pub or_split : (a b : Bool) → (a || b) ≡ true → a ≡ false → b ≡ true
or_split true b h e = absurd (true≢false e)
or_split false b h e = h

pub all_weaker : {A : Type 0} (p q : A → Bool) → ((x : A) → p x ≡ true → q x ≡ true) → (xs : List A) → list_all p xs ≡ true → list_all q xs ≡ true
all_weaker p q gives [] h = refl
all_weaker p q gives (x ∷ xs) h = let parts = and_parts (p x) (list_all p xs) h in and_from (q x) (list_all q xs) (gives x parts.0) (all_weaker p q gives xs parts.1)

all_append : {A : Type 0} (p : A → Bool) (xs ys : List A) → list_all p xs ≡ true → list_all p ys ≡ true → list_all p (xs ++ ys) ≡ true
all_append p [] ys g h = h
all_append p (x ∷ xs) ys g h = let parts = and_parts (p x) (list_all p xs) g in and_from (p x) (list_all p (xs ++ ys)) parts.0 (all_append p xs ys parts.1 h)

-- each item of a list is among them
all_among : (xs : List (List ℕ)) → list_all (λ x. list_any (bytes_eq x) xs) xs ≡ true
all_among [] = refl
all_among (x ∷ xs) = and_from _ (list_all (λ y. list_any (bytes_eq y) (x ∷ xs)) xs) (or_left (bytes_eq x x) (list_any (bytes_eq x) xs) (bytes_eq_itself x)) (all_weaker (λ y. list_any (bytes_eq y) xs) (λ y. list_any (bytes_eq y) (x ∷ xs)) (λ y h. or_right (bytes_eq y x) (list_any (bytes_eq y) xs) h) xs (all_among xs))

-- what holds of each holds of one among them
pub all_at : (p : List ℕ → Bool) (k : List ℕ) (xs : List (List ℕ)) → list_all p xs ≡ true → list_any (bytes_eq k) xs ≡ true → p k ≡ true
all_at p k [] g h = absurd (false≢true h)
all_at p k (x ∷ xs) g h =
    let parts = and_parts (p x) (list_all p xs) g in
    ⊎_elim (λ e. ap p (same_text k x (sym e)) ∙ parts.0) (λ e. all_at p k xs parts.1 (or_split (bytes_eq k x) (list_any (bytes_eq k) xs) h e)) (cases_Bool (bytes_eq k x))

filter_has : (f : List ℕ → Bool) (k : List ℕ) (xs : List (List ℕ)) → f k ≡ true → list_any (bytes_eq k) xs ≡ true → list_any (bytes_eq k) (filter f xs) ≡ true
filter_has f k [] g h = absurd (false≢true h)
filter_has f k (x ∷ xs) g h =
    ⊎_elim
    (λ e. subst (λ t. list_any (bytes_eq k) (cond t (x ∷ filter f xs) (filter f xs)) ≡ true) (sym (ap f (sym (same_text k x (sym e))) ∙ g)) (or_left (bytes_eq k x) (list_any (bytes_eq k) (filter f xs)) e))
    (λ e. let rest = filter_has f k xs g (or_split (bytes_eq k x) (list_any (bytes_eq k) xs) h e) in
    elim (f x) as (λ t. list_any (bytes_eq k) (cond t (x ∷ filter f xs) (filter f xs)) ≡ true) [ true ↦ or_right (bytes_eq k x) (list_any (bytes_eq k) (filter f xs)) rest | false ↦ rest ])
    (cases_Bool (bytes_eq k x))

-- a kid is among the kids in their order
pub kids_have : (k : List ℕ) (ms : Members) → list_any (bytes_eq k) (kid_names ms) ≡ true → list_any (bytes_eq k) (kids_of ms) ≡ true
kids_have k ms h =
    let order = order_names ms in
    let rest = filter (λ name. not (list_any (bytes_eq name) order)) (kid_names ms) in
    list_any-append (bytes_eq k) order rest
    ∙ ⊎_elim
    (λ e. or_left (list_any (bytes_eq k) order) (list_any (bytes_eq k) rest) e)
    (λ e. or_right (list_any (bytes_eq k) order) (list_any (bytes_eq k) rest) (filter_has (λ name. not (list_any (bytes_eq name) order)) k (kid_names ms) (ap not e) h))
    (cases_Bool (list_any (bytes_eq k) order))

later : (t : Bool) (k name : List ℕ) (names : List (List ℕ)) → list_any (bytes_eq k) names ≡ true → list_any (bytes_eq k) (if t then name ∷ names else names) ≡ true
later true k name names h = or_right (bytes_eq k name) (list_any (bytes_eq k) names) h
later false k name names h = h

here : (k name : List ℕ) (d : Data) (names : List (List ℕ)) → k ≡ name → is_order k ≡ false → is_object d ≡ true → list_any (bytes_eq k) (if is_kid_member name d then name ∷ names else names) ≡ true
here k name d names same other is =
    let kid : is_kid_member name d ≡ true = rw (sym same, other, is) refl in
    rw kid (or_left (bytes_eq k name) (list_any (bytes_eq k) names) (subst (λ (n : List ℕ). bytes_eq k n ≡ true) same (bytes_eq_itself k)))

-- a member that is an object is a kid, if its name isn't `:order`
pub kid_names_have : (k : List ℕ) (ms : Members) → is_order k ≡ false → is_kid ms k ≡ true → list_any (bytes_eq k) (kid_names ms) ≡ true
kid_names_have k no_members other h = absurd (false≢true h)
kid_names_have k (member name d ms) other h =
    elim (slice_cmp nat_cmp k name) as (λ o. slice_cmp nat_cmp k name ≡ o → option_map_or is_object (match_ordering o (get_member k ms) (Some d) (get_member k ms)) false ≡ true
    → list_any (bytes_eq k) (if is_kid_member name d then name ∷ kid_names ms else kid_names ms) ≡ true) [
      | Less ↦ λ e found. later (is_kid_member name d) k name (kid_names ms) (kid_names_have k ms other found)
      | Equal ↦ λ e found. here k name d (kid_names ms) (slice_cmp-IsAntisymmetric nat_cmp-IsAntisymmetric k name e) other found
      | Greater ↦ λ e found. later (is_kid_member name d) k name (kid_names ms) (kid_names_have k ms other found)
    ] refl h

all_kids : (ms : Members) (before : List (List ℕ)) (ds : Items) → names_kids ms before ds ≡ true → list_all (is_kid ms) (filter_map as_str (item_list ds)) ≡ true
all_kids ms before no_items h = refl
all_kids ms before (item d ds) h =
    elim (as_str d) as (λ o. option_map_or (λ name. is_kid ms name && not (list_any (λ other. bytes_eq other name) before) && names_kids ms (name ∷ before) ds) o false ≡ true → list_all (is_kid ms) (cons_option o (filter_map as_str (item_list ds))) ≡ true) [
      | None ↦ λ g. absurd (false≢true g)
      | Some name ↦ λ g.
          let parts = and_parts (is_kid ms name && not (list_any (λ other. bytes_eq other name) before)) (names_kids ms (name ∷ before) ds) g in
          and_from (is_kid ms name) (list_all (is_kid ms) (filter_map as_str (item_list ds))) (and_parts (is_kid ms name) (not (list_any (λ other. bytes_eq other name) before)) parts.0).0 (all_kids ms (name ∷ before) ds parts.1)
    ] h

no_object : (o : Option Data) (ds : Items) → option_and_then as_array o ≡ Some ds → option_map_or is_object o false ≡ true → ⊥
no_object None ds is kid = false≢true kid
no_object (Some null) ds is kid = false≢true kid
no_object (Some (boolean b)) ds is kid = false≢true kid
no_object (Some (number n)) ds is kid = false≢true kid
no_object (Some (string s)) ds is kid = false≢true kid
no_object (Some (array js)) ds is kid = false≢true kid
no_object (Some (object ms)) ds is kid = cc

-- `:order` itself is no kid
order_no_kid : (ms : Members) (ds : Items) (k : List ℕ) → option_and_then as_array (get_member order_name ms) ≡ Some ds → is_kid ms k ≡ true → is_order k ≡ false
order_no_kid ms ds k is kid =
    ⊎_elim
    (λ e. absurd (no_object (get_member order_name ms) ds is (subst (λ (n : List ℕ). option_map_or is_object (get_member n ms) false ≡ true) (same_text k order_name (sym e)) kid)))
    (λ e. e)
    (cases_Bool (is_order k))

good_at : (ms : Members) (o : Option Data) → option_map_or (is_good_order ms) o true ≡ true → (ds : Items) → option_and_then as_array o ≡ Some ds → names_kids ms [] ds ≡ true
good_at ms None g ds is = absurd (cc)
good_at ms (Some d) g ds is = sym (ap (λ o. option_map_or (names_kids ms []) o false) is) ∙ g

-- the items of a good order
pub good_items : (ms : Members) → has_good_order ms ≡ true → (ds : Items) → option_and_then as_array (get_member order_name ms) ≡ Some ds → names_kids ms [] ds ≡ true
good_items ms h ds is = good_at ms (get_member order_name ms) h ds is

-- what `:order` names is among the kids
pub order_within : (ms : Members) → has_good_order ms ≡ true → list_all (λ k. list_any (bytes_eq k) (kid_names ms)) (order_names ms) ≡ true
order_within ms h = order_by (option_and_then as_array (get_member order_name ms)) refl
  where
    order_by : (o : Option Items) → option_and_then as_array (get_member order_name ms) ≡ o → list_all (λ k. list_any (bytes_eq k) (kid_names ms)) (filter_map as_str (item_list (unwrap_or o no_items))) ≡ true
    order_by None is = refl
    order_by (Some ds) is = all_weaker (is_kid ms) (λ k. list_any (bytes_eq k) (kid_names ms)) (λ k kid. kid_names_have k ms (order_no_kid ms ds k is kid) kid) (filter_map as_str (item_list ds)) (all_kids ms [] ds (good_items ms h ds is))

-- each kid in its order is a member with an object
pub kids_within : (ms : Members) → has_good_order ms ≡ true → list_all (λ k. list_any (bytes_eq k) (kid_names ms)) (kids_of ms) ≡ true
kids_within ms h =
    all_append (λ k. list_any (bytes_eq k) (kid_names ms)) (order_names ms) (filter (λ name. not (list_any (bytes_eq name) (order_names ms))) (kid_names ms)) (order_within ms h)
    (list_all_filter (λ k. list_any (bytes_eq k) (kid_names ms)) (λ name. not (list_any (bytes_eq name) (order_names ms))) (kid_names ms) (all_among (kid_names ms)))
