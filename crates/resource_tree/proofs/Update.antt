-- A node stays one where a value is set under a name that no kid has.
use Rattle.std.proofs.Common.{◌≡◌, ℕ, Bool, not, Option, true, false, cond, List, refl, sym, ◌∙◌, ap, ⊎_elim, Some, None}
use Rattle.std.specs.Prelude.{is_some, is_none, IsSome, IsTrue}
use Rattle.std.specs.FinMap.Entries.{find-put, find-where_key}
use Rattle.std.specs.Cmp.Lexicographic.{nat_list_cmp_total}
use Rattle.std.specs.Ordering.{eq_by_cmp}
use Rattle.std.specs.List.Sorted.{IsStrictlySortedBy}
use Rattle.std.specs.Map.{keys_of}
use Rattle.std.proofs.lemmas.Bool.{cases_Bool, false≢true}
use Rattle.std.proofs.lemmas.Map.Lookups.{exact_bytes}
use Rattle.std.proofs.lemmas.Map.Views.{tells_apart}
use Rattle.sp_base.specs.declared.value.Value.{Value}
use Rattle.sp_base.specs.Names.{by_name}
use Rattle.sp_base.specs.Paths.{seg_ok}
use Rattle.resource_tree.specs.declared.nodes.Node.{Node}
use Rattle.resource_tree.specs.Content.{by_path, kid, has_kid, prop_at, IsTree, IsGood, node_at, Content, empty_node}
use Rattle.resource_tree.specs.Changes.{with_value, without_value, clearing, update, set_fault}
use Rattle.resource_tree.proofs.Creation.{no_fault, some_from, not_none}
use Rattle.resource_tree.proofs.NodeChange.{Replaces, IsGood-changed}

-- what is known where a value may be set
pub record CanSet (tree : Content) (path : List (List ℕ)) (name : List ℕ) : Type 0 where
  pub there : IsSome (node_at tree path)
  pub free : is_some (node_at tree (kid path name)) ≡ false

pub can_set : (tree : Content) (path : List (List ℕ)) (name : List ℕ) → set_fault tree path name ≡ None → CanSet tree path name
can_set tree path name e =
    let first = no_fault (is_none (node_at tree path)) _ _ e in
    let second = no_fault (is_some (node_at tree (kid path name))) _ _ first.1 in
    record { there = not_none _ first.0; free = second.0 }

pub prop_at-with_value : (name : List ℕ) (value : Value) (node : Node) (q : List ℕ) → prop_at (with_value name value node) q ≡ cond (eq_by_cmp by_name q name) (Some value) (prop_at node q)
prop_at-with_value name value node q = find-put by_name nat_list_cmp_total q name value node.props

pub Replaces-with_value : (tree : Content) (path : List (List ℕ)) (name : List ℕ) (value : Value) (node : Node) → IsTree (node_at tree) → CanSet tree path name → IsTrue (seg_ok name) → node_at tree path ≡ Some node
    → Replaces node (with_value name value node)
Replaces-with_value tree path name value node old can valid was =
    let before = old.nodes path node was in
    record {
      kids = λ k. refl;
      distinct = before.distinct;
      apart = λ k there.
          prop_at-with_value name value node k
          ∙ ⊎_elim
          (λ e. absurd (false≢true (sym (ap (λ s. has_kid node s) (tells_apart exact_bytes k name e) ∙ before.kids name ∙ can.free) ∙ there)))
          (λ other. rw other (before.apart k there))
          (cases_Bool (eq_by_cmp by_name k name));
      names = λ k there.
          ⊎_elim
          (λ e. ap seg_ok (tells_apart exact_bytes k name e) ∙ valid)
          (λ other. let kept : prop_at (with_value name value node) k ≡ prop_at node k = prop_at-with_value name value node k ∙ rw other in before.names k (sym (ap is_some kept) ∙ there))
          (cases_Bool (eq_by_cmp by_name k name));
    }

-- the content with the value is good
pub IsGood-update : (new tree : Content) (path : List (List ℕ)) (name : List ℕ) (value : Value) → IsGood tree → set_fault tree path name ≡ None → IsTrue (seg_ok name) → new ≡ update tree path name value
    → IsStrictlySortedBy by_path (keys_of new) → IsGood new
IsGood-update new tree path name value good allowed valid same ordered =
    let can = can_set tree path name allowed in
    let was = some_from (node_at tree path) empty_node can.there in
    IsGood-changed new tree path _ (with_value name value) good was (Replaces-with_value tree path name value _ good.shape can valid was) same ordered

-- ---- the same without a value

pub prop_at-without_value : (name : List ℕ) (node : Node) (q : List ℕ) → prop_at (without_value name node) q ≡ cond (not (eq_by_cmp by_name name q)) (prop_at node q) None
prop_at-without_value name node q =
    find-where_key by_name (λ key. not (eq_by_cmp by_name name key)) q (λ x tied. ap (λ k. not (eq_by_cmp by_name name k)) (sym (exact_bytes q x tied))) node.props

some_before : {A : Type 0} (b : Bool) (o p : Option A) → p ≡ cond b o None → IsSome p → IsSome o
some_before true o p e there = sym (ap is_some e) ∙ there
some_before false o p e there = absurd (false≢true (sym (ap is_some e) ∙ there))

none_before : {A : Type 0} (b : Bool) (o : Option A) → o ≡ None → cond b o None ≡ None
none_before true o e = e
none_before false o e = refl

pub Replaces-without_value : (at : List (List ℕ) → Option Node) (path : List (List ℕ)) (name : List ℕ) (node : Node) → IsTree at → at path ≡ Some node → Replaces node (without_value name node)
Replaces-without_value at path name node old was =
    let before = old.nodes path node was in
    record {
      kids = λ k. refl;
      distinct = before.distinct;
      apart = λ k there. prop_at-without_value name node k ∙ none_before _ _ (before.apart k there);
      names = λ k there. before.names k (some_before _ _ _ (prop_at-without_value name node k) there);
    }

-- the content without the value is good
pub IsGood-clearing : (new tree : Content) (path : List (List ℕ)) (name : List ℕ) → IsGood tree → IsSome (node_at tree path) → new ≡ clearing tree path name → IsStrictlySortedBy by_path (keys_of new) → IsGood new
IsGood-clearing new tree path name good there same ordered =
    let was = some_from (node_at tree path) empty_node there in
    IsGood-changed new tree path _ (without_value name) good was (Replaces-without_value (node_at tree) path name _ good.shape was) same ordered
