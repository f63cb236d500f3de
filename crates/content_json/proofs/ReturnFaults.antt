-- The members of a node that was written have no fault.
use Rattle.std.proofs.Common.{◌≡◌, ℕ, Bool, true, false, cond, not, ◌&&◌, ◌||◌, T, ⊎_elim, List, [], ◌∷◌, Option, Some, None, option_map, if◌then◌else◌, refl, sym, ap, ◌∙◌}
use Rattle.std.specs.FinMap.Entries.{find, is_sorted}
use Rattle.std.specs.List.{AllByRecursion, IsDistinct, list_any, list_all}
use Rattle.std.specs.Map.{keys_of}
use Rattle.std.specs.Option.{option_or, option_map_or}
use Rattle.std.specs.Ordering.{eq_by_cmp}
use Rattle.std.specs.Str.{bytes_eq}
use Rattle.std.specs.Cmp.Lexicographic.{same_text}
use Rattle.std.proofs.lemmas.Bool.{and_parts, cases_Bool, false≢true, or_left, or_right}
use Rattle.std.proofs.lemmas.Map.Keys.{IsDistinct-head, IsDistinct-tail}
use Rattle.serde_json.specs.Data.{Data, string, object, Members, no_members, member}
use Rattle.sp_base.specs.Names.{by_name}
use Rattle.sp_base.specs.Paths.{seg_ok}
use Rattle.sp_base.specs.declared.value.Value.{Value}
use Rattle.sp_base.proofs.BoolLemmas.{and_second}
use Rattle.resource_tree.specs.declared.nodes.Node.{Node}
use Rattle.resource_tree.specs.Content.{Content, node_at, same_path}
use Rattle.resource_tree.specs.Content as content
use Rattle.property_json.specs.PropertyJson.{has_longs}
use Rattle.content_json.specs.declared.fault.Cause.TheVariants.{BadName as bad_name, BadOrder as bad_order}
use Rattle.content_json.specs.Names.{order_name, is_order, is_content_name, has_bad_name, is_object, is_kid}
use Rattle.content_json.specs.Faults.{names_kids, is_good_order, has_good_order, here, in_member, fault_in, fault_below}
use Rattle.content_json.specs.Nodes.{nodes_in, is_deeper, is_deeper_below}
use Rattle.content_json.specs.Steps.{member_fault, is_at_or_below}
use Rattle.content_json.specs.Written.{has_no_colon, keeps_kind}
use Rattle.content_json.proofs.Under.{bytes_eq_itself}
use Rattle.content_json.specs.Members.{AllMembers}
use Rattle.content_json.proofs.InsertLemmas.{tie_is}
use Rattle.content_json.specs.Parts.{items_from}
use Rattle.content_json.proofs.ValueLemmas.{value_faultless, value_shallow}
use Rattle.content_json.proofs.ReturnMembers.{members_of, IsMember, prop, order, kid, get_kid, get_order_some, get_order_none}

-- what is read for a node at a path of a tree, no more than n levels deep
pub record Returns (tree : Content) (levels : ℕ) (path : List (List ℕ)) (d : Data) : Type 0 where
  pub is_an_object : is_object d ≡ true
  pub faultless : fault_in d ≡ None
  pub shallow : is_deeper levels d ≡ false
  pub nodes : (q : List (List ℕ)) → node_at (nodes_in path d) q ≡ (if is_at_or_below path q then node_at tree q else None)
  pub distinct : IsDistinct same_path (keys_of (nodes_in path d))

-- what is known of a node, and of what is read for its kids
pub record Node-is (tree : Content) (levels : ℕ) (path : List (List ℕ)) (f : List ℕ → Data) (node : Node) : Type 0 where
  pub sorted : T (is_sorted by_name node.props)
  pub longs : list_all (λ p. has_longs p.1) node.props ≡ true
  pub plain_props : list_all (λ p. has_no_colon p.0 && keeps_kind p.1) node.props ≡ true
  pub plain_kids : (k : List ℕ) → list_any (bytes_eq k) node.kids ≡ true → is_content_name k ≡ true
  pub distinct : IsDistinct bytes_eq node.kids
  pub apart : (k : List ℕ) → list_any (bytes_eq k) node.kids ≡ true → find by_name k node.props ≡ None
  pub members : AllMembers (IsMember f node) (members_of f node)
  pub kids : (k : List ℕ) → list_any (bytes_eq k) node.kids ≡ true → Returns tree levels (content.kid path k) (f k)

-- `:order` is neither a kid nor a property
pub order_no_kid : {tree : Content} {levels : ℕ} {path : List (List ℕ)} {f : List ℕ → Data} {node : Node} → Node-is tree levels path f node → list_any (bytes_eq order_name) node.kids ≡ false
order_no_kid {node = node} n =
    ⊎_elim (λ e. absurd (false≢true (and_second (seg_ok order_name) false (n.plain_kids order_name e)))) (λ e. e) (cases_Bool (list_any (bytes_eq order_name) node.kids))

find_colon : (q : List ℕ) → has_no_colon q ≡ false → (ps : List (List ℕ × Value)) → list_all (λ p. has_no_colon p.0 && keeps_kind p.1) ps ≡ true → find by_name q ps ≡ None
find_colon q colon [] h = refl
find_colon q colon (p ∷ ps) h =
    let parts = and_parts (has_no_colon p.0 && keeps_kind p.1) (list_all (λ p. has_no_colon p.0 && keeps_kind p.1) ps) h in
    let apart : eq_by_cmp by_name q p.0 ≡ false = tie_is q p.0 ∙ ⊎_elim
    (λ e. absurd (false≢true (sym colon ∙ ap has_no_colon (same_text q p.0 (sym e)) ∙ (and_parts (has_no_colon p.0) (keeps_kind p.1) parts.0).0)))
    (λ e. e)
    (cases_Bool (bytes_eq q p.0)) in
    ap (λ t. cond t (Some p.1) (find by_name q ps)) apart ∙ find_colon q colon ps parts.1

pub order_no_prop : {tree : Content} {levels : ℕ} {path : List (List ℕ)} {f : List ℕ → Data} {node : Node} → Node-is tree levels path f node → find by_name order_name node.props ≡ None
order_no_prop {node = node} n = find_colon order_name refl node.props n.plain_props

module _ {tree : Content} {levels : ℕ} {path : List (List ℕ)} {f : List ℕ → Data} {node : Node} (n : Node-is tree levels path f node) where
  -- ---- the names

  may_stand : (name : List ℕ) (d : Data) → IsMember f node name d → (is_order name || is_content_name name) ≡ true
  may_stand name d (prop value is plain longs) = or_right (is_order name) (is_content_name name) plain
  may_stand name d (order is) = or_left (is_order name) (is_content_name name) (ap is_order is ∙ bytes_eq_itself order_name)
  may_stand name d (kid among is) = or_right (is_order name) (is_content_name name) (n.plain_kids name among)

  good_names : (ms : Members) → AllMembers (IsMember f node) ms → has_bad_name ms ≡ false
  good_names no_members h = refl
  good_names (member name d ms) h = ap (λ t. not t || has_bad_name ms) (may_stand name d h.0) ∙ good_names ms h.1

  -- ---- the order

  pub kid_is_there : (k : List ℕ) → list_any (bytes_eq k) node.kids ≡ true → is_kid (members_of f node) k ≡ true
  kid_is_there k h = ap (λ o. option_map_or is_object o false) (get_kid f node k h) ∙ (n.kids k h).is_an_object

  before_next : (k : List ℕ) (before ks : List (List ℕ)) → AllByRecursion (λ y. bytes_eq k y ≡ false) ks → AllByRecursion (λ y. list_any (λ other. bytes_eq other y) before ≡ false) ks
      → AllByRecursion (λ y. list_any (λ other. bytes_eq other y) (k ∷ before) ≡ false) ks
  before_next k before [] g h = tt
  before_next k before (y ∷ ks) g h = (ap (λ t. t || list_any (λ other. bytes_eq other y) before) g.0 ∙ h.0, before_next k before ks g.1 h.1)

  names_good : (ms : Members) (before ks : List (List ℕ)) → ((k : List ℕ) → list_any (bytes_eq k) ks ≡ true → is_kid ms k ≡ true) → IsDistinct bytes_eq ks
      → AllByRecursion (λ y. list_any (λ other. bytes_eq other y) before ≡ false) ks → names_kids ms before (items_from string ks) ≡ true
  names_good ms before [] kids distinct fresh = refl
  names_good ms before (k ∷ ks) kids distinct fresh =
      let here = kids k (or_left (bytes_eq k k) (list_any (bytes_eq k) ks) (bytes_eq_itself k)) in
      let rest = names_good ms (k ∷ before) ks (λ q h. kids q (or_right (bytes_eq q k) (list_any (bytes_eq q) ks) h)) (IsDistinct-tail bytes_eq k ks distinct) (before_next k before ks (IsDistinct-head bytes_eq k ks distinct) fresh.1) in
      ap (λ t. t && not (list_any (λ other. bytes_eq other k) before) && names_kids ms (k ∷ before) (items_from string ks)) here
      ∙ ap (λ t. not t && names_kids ms (k ∷ before) (items_from string ks)) fresh.0 ∙ rest

  none_before : (ks : List (List ℕ)) → AllByRecursion (λ y. list_any (λ other. bytes_eq other y) [] ≡ false) ks
  none_before [] = tt
  none_before (k ∷ ks) = (refl, none_before ks)

  good_order : has_good_order (members_of f node) ≡ true
  good_order = by node.kids refl
    where
      ms : Members
      ms = members_of f node

      by : (ks : List (List ℕ)) → node.kids ≡ ks → has_good_order (members_of f node) ≡ true
      by [] e = ap (λ o. option_map_or (is_good_order (members_of f node)) o true) (get_order_none f node n.sorted e (order_no_prop n))
      by (k ∷ ks) e =
          ap (λ o. option_map_or (is_good_order (members_of f node)) o true) (get_order_some f node k ks e (order_no_kid n))
          ∙ names_good (members_of f node) [] node.kids kid_is_there n.distinct (none_before node.kids)

  -- ---- the values

  unless_none : {A : Type 0} (b : Bool) (o : Option A) → o ≡ None → (if b then None else o) ≡ None
  unless_none true o e = refl
  unless_none false o e = e

  no_fault : (name : List ℕ) (d : Data) → IsMember f node name d → member_fault name d ≡ None
  no_fault name d (prop value is plain longs) = unless_none (is_order name) (option_map (in_member name) (fault_in d)) (ap (option_map (in_member name)) (ap fault_in is ∙ value_faultless value longs))
  no_fault name d (order is) = ap (λ t. if t then None else option_map (in_member name) (fault_in d)) (ap is_order is ∙ bytes_eq_itself order_name)
  no_fault name d (kid among is) = unless_none (is_order name) (option_map (in_member name) (fault_in d)) (ap (option_map (in_member name)) (ap fault_in is ∙ (n.kids name among).faultless))

  no_fault_below : (ms : Members) → AllMembers (IsMember f node) ms → fault_below ms ≡ None
  no_fault_below no_members h = refl
  no_fault_below (member name d ms) h = ap (λ o. option_or o (fault_below ms)) (no_fault name d h.0) ∙ no_fault_below ms h.1

  pub object_faultless : fault_in (object (members_of f node)) ≡ None
  object_faultless =
      let ms = members_of f node in
      ap (λ t. option_or (if t then Some (here bad_name) else (if has_good_order ms then None else Some (here bad_order))) (fault_below ms)) (good_names ms n.members)
      ∙ ap (λ t. option_or (if t then None else Some (here bad_order)) (fault_below ms)) good_order
      ∙ no_fault_below ms n.members

  -- ---- the levels

  unless_false : (b c : Bool) → c ≡ false → (if b then false else c) ≡ false
  unless_false true c e = refl
  unless_false false c e = e

  not_deeper : (name : List ℕ) (d : Data) → IsMember f node name d → (if is_order name then false else is_deeper levels d) ≡ false
  not_deeper name d (prop value is plain longs) = unless_false (is_order name) (is_deeper levels d) (ap (is_deeper levels) is ∙ value_shallow levels value)
  not_deeper name d (order is) = ap (λ t. if t then false else is_deeper levels d) (ap is_order is ∙ bytes_eq_itself order_name)
  not_deeper name d (kid among is) = unless_false (is_order name) (is_deeper levels d) (ap (is_deeper levels) is ∙ (n.kids name among).shallow)

  pub not_deeper_below : (ms : Members) → AllMembers (IsMember f node) ms → is_deeper_below levels ms ≡ false
  not_deeper_below no_members h = refl
  not_deeper_below (member name d ms) h = ap (λ t. t || is_deeper_below levels ms) (not_deeper name d h.0) ∙ not_deeper_below ms h.1
