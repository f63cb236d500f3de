-- A node that was written is read as the same node, and so are those below it.
use Rattle.std.proofs.Common.{◌≡◌, ℕ, Bool, true, false, cond, not, ◌&&◌, T, ⊎_elim, List, [], ◌∷◌, ◌++◌, Option, Some, None, option_map, filter, if◌then◌else◌, unwrap_or, refl, sym, ap, ◌∙◌, append-nil}
use Rattle.std.specs.Prelude.{option_and_then}
use Rattle.std.specs.Cmp.Lexicographic.{nat_list_cmp_total, same_text}
use Rattle.std.specs.FinMap.Entries as entries
use Rattle.std.specs.FinMap.Entries.{find, is_sorted, below_all, is_sorted-put, find-put, same_entries}
use Rattle.std.specs.List.{list_any, list_all, filter_map}
use Rattle.std.specs.Option.{option_or, option_map_or}
use Rattle.std.specs.Ordering.{is_lt, eq_by_cmp}
use Rattle.std.specs.Str.{bytes_eq}
use Rattle.std.proofs.lemmas.Bool.{cases_Bool, true≢false, false≢true, and_parts}
use Rattle.serde_json.specs.Data.{Data, null, boolean, number, string, array, object, no_items, Members, no_members, member}
use Rattle.serde_json.specs.Find.{as_str, as_array, get_member}
use Rattle.sp_base.specs.Names.{by_name}
use Rattle.sp_base.specs.declared.value.Value.{Value}
use Rattle.sp_base.proofs.BoolLemmas.{T_first, T_second, and_second}
use Rattle.sp_base.proofs.PropertyLemmas.{same_name}
use Rattle.resource_tree.specs.declared.nodes.Node.{Node}
use Rattle.resource_tree.specs.Content.{Content}
use Rattle.property_json.specs.PropertyJson.{has_longs}
use Rattle.content_json.specs.Names.{order_name, is_order, is_object, is_kid_member, kid_names}
use Rattle.content_json.specs.Lists.{item_list, data_value}
use Rattle.content_json.specs.Nodes.{order_names, kids_of, with_member, add_props, node_of_members}
use Rattle.content_json.specs.Written.{has_no_colon, keeps_kind}
use Rattle.content_json.proofs.Under.{bytes_eq_itself}
use Rattle.content_json.proofs.KidLemmas.{all_weaker}
use Rattle.content_json.specs.Members.{entries_of, AreSorted, AllMembers}
use Rattle.content_json.proofs.InsertLemmas.{tie_is, get-member}
use Rattle.content_json.specs.Parts.{data_of}
use Rattle.content_json.proofs.ValueLemmas.{texts_back, value_back, value_no_object}
use Rattle.content_json.proofs.ReturnMembers.{less_apart, option_or-none, members_of, members_sorted, IsMember, prop, order, kid, get_kid, get_prop, get_order_some, get_order_none}
use Rattle.content_json.proofs.ReturnFaults.{Node-is, order_no_kid, order_no_prop}

-- ---- the properties that are read

pub get_below : (q : List ℕ) (ms : Members) → T (below_all by_name q (entries_of ms)) → get_member q ms ≡ None
get_below q no_members h = refl
get_below q (member k d ms) h =
    get-member q k d ms
    ∙ ap (λ t. cond t (Some d) (get_member q ms)) (sym (tie_is q k) ∙ less_apart (by_name q k) (T_first (is_lt (by_name q k)) (below_all by_name q (entries_of ms)) h))
    ∙ get_below q ms (T_second (is_lt (by_name q k)) (below_all by_name q (entries_of ms)) h)

find_put : (q k : List ℕ) (v : Value) (es : List (List ℕ × Value)) → find by_name q (entries.put by_name k v es) ≡ cond (bytes_eq q k) (Some v) (find by_name q es)
find_put q k v es = find-put by_name nat_list_cmp_total q k v es ∙ ap (λ t. cond t (Some v) (find by_name q es)) (tie_is q k)

-- the value that a property of this name gets, if it gets one
abbrev pub read_value : List ℕ → Option Data → Option Value
read_value q o = if is_order q then None else option_and_then data_value o

added_other : (q name : List ℕ) (d : Data) (props : List (List ℕ × Value)) → bytes_eq q name ≡ false → find by_name q (with_member name d props) ≡ find by_name q props
added_other q name d props e =
    elim (is_order name) as (λ t. find by_name q (if t then props else option_map_or (λ value. entries.put by_name name value props) (data_value d) props) ≡ find by_name q props) [
      | true ↦ refl
      | false ↦ elim (data_value d) as (λ o. find by_name q (option_map_or (λ value. entries.put by_name name value props) o props) ≡ find by_name q props) [
        | None ↦ refl
        | Some v ↦ find_put q name v props ∙ ap (λ t. cond t (Some v) (find by_name q props)) e
      ]
    ]

added_same : (q : List ℕ) (d : Data) (props : List (List ℕ × Value)) → find by_name q (with_member q d props) ≡ option_or (read_value q (Some d)) (find by_name q props)
added_same q d props =
    elim (is_order q) as (λ t. find by_name q (if t then props else option_map_or (λ value. entries.put by_name q value props) (data_value d) props) ≡ option_or (if t then None else data_value d) (find by_name q props)) [
      | true ↦ refl
      | false ↦ elim (data_value d) as (λ o. find by_name q (option_map_or (λ value. entries.put by_name q value props) o props) ≡ option_or o (find by_name q props)) [
        | None ↦ refl
        | Some v ↦ find_put q q v props ∙ ap (λ t. cond t (Some v) (find by_name q props)) (bytes_eq_itself q)
      ]
    ]

no_value : (q : List ℕ) → read_value q None ≡ None
no_value q = elim (is_order q) as (λ t. (if t then None else option_and_then data_value None) ≡ None) [ true ↦ refl | false ↦ refl ]

pub find_added : (ms : Members) (props : List (List ℕ × Value)) (q : List ℕ) → AreSorted ms
    → find by_name q (add_props props ms) ≡ option_or (read_value q (get_member q ms)) (find by_name q props)
find_added no_members props q sorted = sym (ap (λ o. option_or o (find by_name q props)) (no_value q))
find_added (member name d ms) props q sorted =
    let below = T_first (below_all by_name name (entries_of ms)) (is_sorted by_name (entries_of ms)) sorted in
    find_added ms (with_member name d props) q (T_second (below_all by_name name (entries_of ms)) (is_sorted by_name (entries_of ms)) sorted)
    ∙ ⊎_elim
    (λ e. let same : q ≡ name = same_text q name (sym e) in
    let none : get_member q ms ≡ None = ap (λ n. get_member n ms) same ∙ get_below name ms below in
    ap (λ o. option_or (read_value q o) (find by_name q (with_member name d props))) none
    ∙ ap (λ o. option_or o (find by_name q (with_member name d props))) (no_value q)
    ∙ ap (λ n. find by_name q (with_member n d props)) (sym same) ∙ added_same q d props
    ∙ sym (ap (λ o. option_or (read_value q o) (find by_name q props)) (get-member q name d ms ∙ ap (λ t. cond t (Some d) (get_member q ms)) e)))
    (λ e. ap (option_or (read_value q (get_member q ms))) (added_other q name d props e)
    ∙ sym (ap (λ o. option_or (read_value q o) (find by_name q props)) (get-member q name d ms ∙ ap (λ t. cond t (Some d) (get_member q ms)) e)))
    (cases_Bool (bytes_eq q name))

added_sorted : (name : List ℕ) (d : Data) (props : List (List ℕ × Value)) → T (is_sorted by_name props) → T (is_sorted by_name (with_member name d props))
added_sorted name d props h =
    elim (is_order name) as (λ t. T (is_sorted by_name (if t then props else option_map_or (λ value. entries.put by_name name value props) (data_value d) props))) [
      | true ↦ h
      | false ↦ elim (data_value d) as (λ o. T (is_sorted by_name (option_map_or (λ value. entries.put by_name name value props) o props))) [
        | None ↦ h
        | Some v ↦ is_sorted-put by_name nat_list_cmp_total name v props h
      ]
    ]

pub sorted_props : (ms : Members) (props : List (List ℕ × Value)) → T (is_sorted by_name props) → T (is_sorted by_name (add_props props ms))
sorted_props no_members props h = h
sorted_props (member name d ms) props h = sorted_props ms (with_member name d props) (added_sorted name d props h)

object_no_value : (d : Data) → is_object d ≡ true → data_value d ≡ None
object_no_value null h = absurd (false≢true h)
object_no_value (boolean b) h = absurd (false≢true h)
object_no_value (number x) h = absurd (false≢true h)
object_no_value (string s) h = absurd (false≢true h)
object_no_value (array ds) h = absurd (false≢true h)
object_no_value (object ms) h = refl

-- what holds of each value holds of one that is found
found_holds : (P : Value → Bool) (ps : List (List ℕ × Value)) (q : List ℕ) (v : Value) → list_all (λ p. P p.1) ps ≡ true → find by_name q ps ≡ Some v → P v ≡ true
found_holds P [] q v h e = absurd (cc)
found_holds P (p ∷ ps) q v h e =
    let parts = and_parts (P p.1) (list_all (λ p. P p.1) ps) h in
    elim (eq_by_cmp by_name q p.0) as (λ t. cond t (Some p.1) (find by_name q ps) ≡ Some v → P v ≡ true) [
      | true ↦ λ is. let same : p.1 ≡ v = cc in ap P (sym same) ∙ parts.0
      | false ↦ λ is. found_holds P ps q v parts.1 is
    ] e

module _ {tree : Content} {levels : ℕ} {path : List (List ℕ)} {f : List ℕ → Data} {node : Node} (n : Node-is tree levels path f node) where
  value_found : (q : List ℕ) (o : Option Value) → find by_name q node.props ≡ o → option_and_then data_value (option_map data_of o) ≡ o
  value_found q None e = refl
  value_found q (Some v) e =
      value_back v (found_holds has_longs node.props q v n.longs e)
      (found_holds keeps_kind node.props q v (all_weaker (λ p. has_no_colon p.0 && keeps_kind p.1) (λ p. keeps_kind p.1) (λ p h. and_second (has_no_colon p.0) (keeps_kind p.1) h) node.props n.plain_props) e)

  value_read : (q : List ℕ) → read_value q (get_member q (members_of f node)) ≡ find by_name q node.props
  value_read q =
      ⊎_elim
      (λ e. ap (λ t. if t then None else option_and_then data_value (get_member q (members_of f node))) e ∙ sym (order_no_prop n) ∙ ap (λ k. find by_name k node.props) (sym (same_text q order_name (sym e))))
      (λ e. ap (λ t. if t then None else option_and_then data_value (get_member q (members_of f node))) e
      ∙ ⊎_elim
      (λ h. ap (option_and_then data_value) (get_kid f node q h) ∙ object_no_value (f q) (n.kids q h).is_an_object ∙ sym (n.apart q h))
      (λ h. ap (option_and_then data_value) (get_prop f node q n.sorted h e) ∙ value_found q (find by_name q node.props) refl)
      (cases_Bool (list_any (bytes_eq q) node.kids)))
      (cases_Bool (is_order q))

  props_back : add_props [] (members_of f node) ≡ node.props
  props_back =
      same_entries by_name nat_list_cmp_total same_name (add_props [] (members_of f node)) node.props (sorted_props (members_of f node) [] tt) n.sorted
      (λ q. find_added (members_of f node) [] q (members_sorted f node) ∙ option_or-none (read_value q (get_member q (members_of f node))) ∙ value_read q)

  -- ---- the kids that are read

  names_back : order_names (members_of f node) ≡ node.kids
  names_back = by node.kids refl
    where
      by : (ks : List (List ℕ)) → node.kids ≡ ks → order_names (members_of f node) ≡ node.kids
      by [] e = ap (λ o. filter_map as_str (item_list (unwrap_or (option_and_then as_array o) no_items))) (get_order_none f node n.sorted e (order_no_prop n)) ∙ sym e
      by (k ∷ ks) e = ap (λ o. filter_map as_str (item_list (unwrap_or (option_and_then as_array o) no_items))) (get_order_some f node k ks e (order_no_kid n)) ∙ texts_back node.kids

  -- which members are kids
  pub prop_no_kid : (name : List ℕ) (d : Data) (value : Value) → d ≡ data_of value → is_kid_member name d ≡ false
  prop_no_kid name d value is = ap (λ t. not (is_order name) && t) (ap is_object is ∙ value_no_object value) ∙ never (not (is_order name))
    where
      never : (t : Bool) → (t && false) ≡ false
      never true = refl
      never false = refl

  pub order_name_no_kid : (name : List ℕ) (d : Data) → name ≡ order_name → is_kid_member name d ≡ false
  order_name_no_kid name d is = ap (λ t. not t && is_object d) (ap is_order is ∙ bytes_eq_itself order_name)

  pub kid_no_order : (name : List ℕ) → list_any (bytes_eq name) node.kids ≡ true → is_order name ≡ false
  kid_no_order name among =
      ⊎_elim (λ e. absurd (true≢false (sym (ap (λ k. list_any (bytes_eq k) node.kids) (sym (same_text name order_name (sym e))) ∙ among) ∙ order_no_kid n))) (λ e. e) (cases_Bool (is_order name))

  pub kid_is_kid : (name : List ℕ) (d : Data) → list_any (bytes_eq name) node.kids ≡ true → d ≡ f name → is_kid_member name d ≡ true
  kid_is_kid name d among is = ap (λ t. not t && is_object d) (kid_no_order name among) ∙ ap is_object is ∙ (n.kids name among).is_an_object

  kids_within : (ms : Members) → AllMembers (IsMember f node) ms → list_all (λ k. list_any (bytes_eq k) node.kids) (kid_names ms) ≡ true
  kids_within no_members h = refl
  kids_within (member name d ms) (prop value is plain longs, h) = rw (prop_no_kid name d value is) (kids_within ms h)
  kids_within (member name d ms) (order is, h) = rw (order_name_no_kid name d is) (kids_within ms h)
  kids_within (member name d ms) (kid among is, h) = rw (kid_is_kid name d among is, among) (kids_within ms h)

  none_left : (names : List (List ℕ)) → list_all (λ k. list_any (bytes_eq k) node.kids) names ≡ true → filter (λ k. not (list_any (bytes_eq k) node.kids)) names ≡ []
  none_left [] h = refl
  none_left (k ∷ names) h = let parts = and_parts (list_any (bytes_eq k) node.kids) (list_all (λ k. list_any (bytes_eq k) node.kids) names) h in rw (parts.0) (none_left names parts.1)

  kids_back : kids_of (members_of f node) ≡ node.kids
  kids_back =
      let ms = members_of f node in
      ap (λ names. names ++ filter (λ k. not (list_any (bytes_eq k) names)) (kid_names ms)) names_back
      ∙ ap (λ rest. node.kids ++ rest) (none_left (kid_names ms) (kids_within ms n.members)) ∙ append-nil node.kids

  pub node_back : node_of_members (members_of f node) ≡ node
  node_back = ap (λ ps. record { props = ps; kids = kids_of (members_of f node) }) props_back ∙ ap (λ ks. record { props = node.props; kids = ks }) kids_back
