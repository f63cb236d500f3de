-- The nodes that are read for a node that was written, at their paths.
use Rattle.std.proofs.Common.{◌≡◌, ℕ, suc, ◌-◌, Bool, true, false, cond, ◌||◌, T, ⊎_elim, List, [], ◌∷◌, ◌++◌, Option, Some, None, is_some, if◌then◌else◌, refl, sym, ap, ◌∙◌, subst, arith}
use Rattle.std.specs.Cmp.{tied_itself}
use Rattle.std.specs.Cmp.Lexicographic.{nat_list_cmp_total, same_text}
use Rattle.std.specs.FinMap.Entries.{is_sorted, below_all}
use Rattle.std.specs.List.{AllByRecursion, IsDistinct, list_any}
use Rattle.std.specs.Map.{keys_of}
use Rattle.std.specs.Option.{option_or}
use Rattle.std.specs.Ordering.{is_lt}
use Rattle.std.specs.Str.{bytes_eq}
use Rattle.std.proofs.lemmas.Bool.{cases_Bool, ne_eqb, true≢false, false≢true, or_left, or_right}
use Rattle.std.proofs.lemmas.Map.Keys.{IsDistinct-head, IsDistinct-tail, IsDistinct-cons}
use Rattle.serde_json.specs.Data.{Data, object, Members, no_members, member}
use Rattle.sp_base.specs.Names.{by_name}
use Rattle.sp_base.proofs.BoolLemmas.{T_first, T_second}
use Rattle.resource_tree.specs.declared.nodes.Node.{Node}
use Rattle.resource_tree.specs.Content.{Content, IsGood, node_at, same_path}
use Rattle.resource_tree.specs.Content as content
use Rattle.resource_tree.proofs.PathLemmas.{path_from_same, same_path_self}
use Rattle.resource_tree.proofs.SamePaths.{same_path_swapped}
use Rattle.content_json.specs.Names.{order_name, is_order, is_kid_member, kid_names}
use Rattle.content_json.specs.Nodes.{node_of_members, nodes_in, nodes_below, is_deeper_below}
use Rattle.content_json.specs.Steps.{is_at_or_below}
use Rattle.content_json.proofs.Under.{bytes_eq_itself, is_at_or_below_itself, is_at_or_below-parent, is_at_or_below-one}
use Rattle.content_json.proofs.KidLemmas.{or_split, kid_names_have}
use Rattle.content_json.proofs.NodeLemmas.{none_unless, node_at-append, none_in, none_at_parent}
use Rattle.content_json.proofs.BelowLemmas.{below_kid}
use Rattle.content_json.specs.Members.{entries_of, AreSorted, AllMembers}
use Rattle.content_json.specs.Parts.{data_of}
use Rattle.content_json.proofs.ValueLemmas.{value_no_nodes}
use Rattle.content_json.proofs.ReturnMembers.{members_of, members_sorted, IsMember, prop, order, kid}
use Rattle.content_json.proofs.ReturnFaults.{Returns, Node-is, kid_is_there, object_faultless, not_deeper_below}
use Rattle.content_json.proofs.ReturnNodes.{node_back, prop_no_kid, order_name_no_kid, kid_no_order, kid_is_kid}

-- a path at or below one of these kids
abbrev below_any : List (List ℕ) → List (List ℕ) → List (List ℕ) → Bool
below_any path names q = list_any (λ s. is_at_or_below (content.kid path s) q) names

-- the nodes of one member
abbrev nodes_of : List (List ℕ) → List ℕ → Data → Content
nodes_of path name d = if is_order name then [] else nodes_in (content.kid path name) d

no_nodes_unless : (b : Bool) (nodes : Content) → nodes ≡ [] → (if b then [] else nodes) ≡ []
no_nodes_unless true nodes e = refl
no_nodes_unless false nodes e = e

either : {A : Type 0} (a b : Bool) (o : Option A) → option_or (if a then o else None) (if b then o else None) ≡ (if a || b then o else None)
either true true None = refl
either true true (Some x) = refl
either true false None = refl
either true false (Some x) = refl
either false b o = refl

one_less : (levels : ℕ) → suc levels - 1 ≡ levels
one_less levels = omega arith

abbrev no_node : Option Node
no_node = None

nothing : (t : Bool) → (if t then no_node else no_node) ≡ no_node
nothing true = refl
nothing false = refl

any_at : (P : List ℕ → Bool) (s : List ℕ) (names : List (List ℕ)) → P s ≡ true → list_any (bytes_eq s) names ≡ true → list_any P names ≡ true
any_at P s [] is h = absurd (false≢true h)
any_at P s (k ∷ names) is h =
    ⊎_elim
    (λ e. or_left (P k) (list_any P names) (ap P (sym (same_text s k (sym e))) ∙ is))
    (λ e. or_right (P k) (list_any P names) (any_at P s names is (or_split (bytes_eq s k) (list_any (bytes_eq s) names) h e)))
    (cases_Bool (bytes_eq s k))

any_below : (path q : List (List ℕ)) (names : List (List ℕ)) → is_at_or_below path q ≡ false → below_any path names q ≡ false
any_below path q [] h = refl
any_below path q (k ∷ names) h =
    ap (λ t. t || below_any path names q) (⊎_elim (λ e. absurd (true≢false (sym (is_at_or_below-parent path q k e) ∙ h))) (λ e. e) (cases_Bool (is_at_or_below (content.kid path k) q))) ∙ any_below path q names h

-- ---- keys and look-ups

keys_hold : (Q : List (List ℕ) → Type 0) (nodes : Content) → ((q : List (List ℕ)) → is_some (node_at nodes q) ≡ true → Q q) → AllByRecursion Q (keys_of nodes)
keys_hold Q [] gives = tt
keys_hold Q (e ∷ nodes) gives = (
  gives e.0 (ap (λ t. is_some (cond t (Some e.1) (node_at nodes e.0))) (same_path_self e.0)),
  keys_hold Q nodes (λ q h. gives q (elim (same_path q e.0) as (λ t. is_some (cond t (Some e.1) (node_at nodes q)) ≡ true) [ true ↦ refl | false ↦ h ])),
)

apart_from_none : (nodes : Content) (p : List (List ℕ)) → node_at nodes p ≡ None → AllByRecursion (λ y. same_path p y ≡ false) (keys_of nodes)
apart_from_none [] p none = tt
apart_from_none (e ∷ nodes) p none =
    elim (same_path p e.0) as (λ t. same_path p e.0 ≡ t → cond t (Some e.1) (node_at nodes p) ≡ None → AllByRecursion (λ y. same_path p y ≡ false) (e.0 ∷ keys_of nodes)) [
      | true ↦ λ is h. absurd (cc)
      | false ↦ λ is h. (is, apart_from_none nodes p h)
    ] refl none

all_keys-append : (Q : List (List ℕ) → Type 0) (a b : Content) → AllByRecursion Q (keys_of a) → AllByRecursion Q (keys_of b) → AllByRecursion Q (keys_of (a ++ b))
all_keys-append Q [] b g h = h
all_keys-append Q (e ∷ a) b g h = (g.0, all_keys-append Q a b g.1 h)

distinct-append : (a b : Content) → IsDistinct same_path (keys_of a) → IsDistinct same_path (keys_of b) → AllByRecursion (λ y. node_at b y ≡ None) (keys_of a) → IsDistinct same_path (keys_of (a ++ b))
distinct-append [] b g h apart = h
distinct-append (e ∷ a) b g h apart =
    IsDistinct-cons same_path e.0 (keys_of (a ++ b))
    (all_keys-append (λ y. same_path e.0 y ≡ false) a b (IsDistinct-head same_path e.0 (keys_of a) g) (apart_from_none b e.0 apart.0))
    (distinct-append a b (IsDistinct-tail same_path e.0 (keys_of a) g) h apart.1)

no_keys : IsDistinct same_path []
unfolding IsDistinct
no_keys = tt

-- the members after one have no node at or below it
none_later : (path q : List (List ℕ)) (name : List ℕ) (ms : Members) → T (below_all by_name name (entries_of ms)) → is_at_or_below (content.kid path name) q ≡ true → node_at (nodes_below path ms) q ≡ None
none_later path q name no_members h under = refl
none_later path q name (member k d ms) h under =
    let apart : is_at_or_below (content.kid path k) q ≡ false = ⊎_elim
    (λ e. let same = is_at_or_below-one path q name k under e in
    absurd (subst T (ap is_lt (ap (by_name name) (sym same) ∙ tied_itself nat_list_cmp_total name)) (T_first (is_lt (by_name name k)) (below_all by_name name (entries_of ms)) h)))
    (λ e. e)
    (cases_Bool (is_at_or_below (content.kid path k) q)) in
    node_at-append (nodes_of path k d) (nodes_below path ms) q
    ∙ ap (λ o. option_or o (node_at (nodes_below path ms) q)) (none_unless (is_order k) (nodes_in (content.kid path k) d) q (none_in (content.kid path k) q d apart))
    ∙ none_later path q name ms (T_second (is_lt (by_name name k)) (below_all by_name name (entries_of ms)) h) under

module _ {tree : Content} {levels : ℕ} {path : List (List ℕ)} {f : List ℕ → Data} {node : Node} (n : Node-is tree levels path f node) where
  prop_no_nodes : (name : List ℕ) (d : Data) (value : _) → d ≡ data_of value → nodes_of path name d ≡ []
  prop_no_nodes name d value is = no_nodes_unless (is_order name) (nodes_in (content.kid path name) d) (ap (nodes_in (content.kid path name)) is ∙ value_no_nodes (content.kid path name) value)

  order_no_nodes : (name : List ℕ) (d : Data) → is_order name ≡ true → nodes_of path name d ≡ []
  order_no_nodes name d is = ap (λ t. if t then [] else nodes_in (content.kid path name) d) is

  kid_nodes : (name : List ℕ) (d : Data) → list_any (bytes_eq name) node.kids ≡ true → d ≡ f name → nodes_of path name d ≡ nodes_in (content.kid path name) (f name)
  kid_nodes name d among is = ap (λ t. if t then [] else nodes_in (content.kid path name) d) (kid_no_order n name among) ∙ ap (nodes_in (content.kid path name)) is

  -- ---- which node is where

  no_more : (name : List ℕ) (d : Data) (ms : Members) (q : List (List ℕ)) → nodes_of path name d ≡ [] → is_kid_member name d ≡ false
      → node_at (nodes_below path ms) q ≡ (if below_any path (kid_names ms) q then node_at tree q else None)
      → node_at (nodes_below path (member name d ms)) q ≡ (if below_any path (kid_names (member name d ms)) q then node_at tree q else None)
  no_more name d ms q none no_kid rest =
      ap (λ nodes. node_at (nodes ++ nodes_below path ms) q) none ∙ rest
      ∙ sym (ap (λ t. if below_any path (if t then name ∷ kid_names ms else kid_names ms) q then node_at tree q else None) no_kid)

  nodes_at : (ms : Members) → AllMembers (IsMember f node) ms → (q : List (List ℕ)) → node_at (nodes_below path ms) q ≡ (if below_any path (kid_names ms) q then node_at tree q else None)
  nodes_at no_members h q = refl
  nodes_at (member name d ms) (prop value is plain longs, h) q = no_more name d ms q (prop_no_nodes name d value is) (prop_no_kid n name d value is) (nodes_at ms h q)
  nodes_at (member name d ms) (order is, h) q = no_more name d ms q (order_no_nodes name d (ap is_order is ∙ bytes_eq_itself order_name)) (order_name_no_kid n name d is) (nodes_at ms h q)
  nodes_at (member name d ms) (kid among is, h) q =
      node_at-append (nodes_of path name d) (nodes_below path ms) q
      ∙ ap (λ nodes. option_or (node_at nodes q) (node_at (nodes_below path ms) q)) (kid_nodes name d among is)
      ∙ ap (λ o. option_or o (node_at (nodes_below path ms) q)) ((n.kids name among).nodes q)
      ∙ ap (option_or (if is_at_or_below (content.kid path name) q then node_at tree q else None)) (nodes_at ms h q)
      ∙ either (is_at_or_below (content.kid path name) q) (below_any path (kid_names ms) q) (node_at tree q)
      ∙ sym (ap (λ t. if below_any path (if t then name ∷ kid_names ms else kid_names ms) q then node_at tree q else None) (kid_is_kid n name d among is))

  -- ---- each path once

  distinct_below : (ms : Members) → AreSorted ms → AllMembers (IsMember f node) ms → IsDistinct same_path (keys_of (nodes_below path ms))
  distinct_below no_members sorted h = no_keys
  distinct_below (member name d ms) sorted (prop value is plain longs, h) =
      subst (λ nodes. IsDistinct same_path (keys_of (nodes ++ nodes_below path ms))) (sym (prop_no_nodes name d value is)) (distinct_below ms (T_second (below_all by_name name (entries_of ms)) (is_sorted by_name (entries_of ms)) sorted) h)
  distinct_below (member name d ms) sorted (order is, h) =
      subst (λ nodes. IsDistinct same_path (keys_of (nodes ++ nodes_below path ms))) (sym (order_no_nodes name d (ap is_order is ∙ bytes_eq_itself order_name)))
      (distinct_below ms (T_second (below_all by_name name (entries_of ms)) (is_sorted by_name (entries_of ms)) sorted) h)
  distinct_below (member name d ms) sorted (kid among is, h) =
      let here = nodes_in (content.kid path name) (f name) in
      let below = T_first (below_all by_name name (entries_of ms)) (is_sorted by_name (entries_of ms)) sorted in
      let within = λ (q : List (List ℕ)) (there : is_some (node_at here q) ≡ true). none_later path q name ms below
      (⊎_elim (λ e. e) (λ e. absurd (false≢true (sym (ap is_some (none_in (content.kid path name) q (f name) e)) ∙ there))) (cases_Bool (is_at_or_below (content.kid path name) q))) in
      subst (λ nodes. IsDistinct same_path (keys_of (nodes ++ nodes_below path ms))) (sym (kid_nodes name d among is))
      (distinct-append here (nodes_below path ms) (n.kids name among).distinct
      (distinct_below ms (T_second (below_all by_name name (entries_of ms)) (is_sorted by_name (entries_of ms)) sorted) h)
      (keys_hold (λ y. node_at (nodes_below path ms) y ≡ None) here within))

  -- ---- the whole

  nodes_back : IsGood tree → node_at tree path ≡ Some node → (q : List (List ℕ)) → node_at (nodes_in path (object (members_of f node))) q ≡ (if is_at_or_below path q then node_at tree q else None)
  nodes_back good there q =
      ⊎_elim
      (λ e. let same : q ≡ path = path_from_same q path e in
      ap (λ t. cond t (Some (node_of_members ms)) (node_at (nodes_below path ms) q)) e ∙ ap (λ m. Some m) (node_back n) ∙ sym there ∙ ap (node_at tree) (sym same)
      ∙ sym (ap (λ t. if t then node_at tree q else None) (ap (is_at_or_below path) same ∙ is_at_or_below_itself path)))
      (λ e. ap (λ t. cond t (Some (node_of_members ms)) (node_at (nodes_below path ms) q)) e ∙ nodes_at ms n.members q ∙ by (node_at tree q) refl e)
      (cases_Bool (same_path q path))
    where
      ms : Members
      ms = members_of f node

      by : (o : Option Node) → node_at tree q ≡ o → same_path q path ≡ false → (if below_any path (kid_names (members_of f node)) q then node_at tree q else None) ≡ (if is_at_or_below path q then node_at tree q else None)
      by None at e = ap (λ o. if below_any path (kid_names (members_of f node)) q then o else None) at ∙ nothing (below_any path (kid_names (members_of f node)) q) ∙ sym (nothing (is_at_or_below path q)) ∙ ap (λ o. if is_at_or_below path q then o else None) (sym at)
      by (Some m) at e =
          ap (λ t. if t then node_at tree q else None)
          (⊎_elim
          (λ under. let found = below_kid tree path q node good there under (same_path_swapped path q ∙ e) (ap is_some at) in
          any_at (λ s. is_at_or_below (content.kid path s) q) found.0 (kid_names (members_of f node)) found.2
          (kid_names_have found.0 (members_of f node) (kid_no_order n found.0 found.1) (kid_is_there n found.0 found.1)) ∙ sym under)
          (λ apart. any_below path q (kid_names (members_of f node)) apart ∙ sym apart)
          (cases_Bool (is_at_or_below path q)))

  pub returns_node : IsGood tree → node_at tree path ≡ Some node → Returns tree (suc levels) path (object (members_of f node))
  returns_node good there = record {
    is_an_object = refl;
    faultless = object_faultless n;
    shallow = ap (λ t. t || is_deeper_below (suc levels - 1) (members_of f node)) (ne_eqb (suc levels) 0 (λ e. omega arith))
        ∙ ap (λ l. is_deeper_below l (members_of f node)) (one_less levels) ∙ not_deeper_below n (members_of f node) n.members;
    nodes = nodes_back good there;
    distinct = IsDistinct-cons same_path path (keys_of (nodes_below path (members_of f node))) (apart_from_none (nodes_below path (members_of f node)) path (none_at_parent path (members_of f node)))
        (distinct_below (members_of f node) (members_sorted f node) n.members);
  }
