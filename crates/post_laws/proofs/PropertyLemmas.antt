-- The property at a path, after each change of the content.
use Rattle.std.proofs.Common.{◌≡◌, ◌≢◌, ◌∙◌, ap, sym, refl, subst, ⊎_elim, inl, inr, ◌⊎◌, ℕ, List, [], ◌∷◌, ◌++◌, Option, Some, None, length, Bool, true, false, cond}
use Rattle.std.specs.Prelude.{◌==◌, is_some, is_none, nat_eq, not, option_and_then, option_map}
use Rattle.std.specs.Option.{option_map_or}
use Rattle.std.specs.BTreeMap.{insert_entry}
use Rattle.std.specs.Cmp.{eq_by_cmp_equiv}
use Rattle.std.specs.Cmp.Lexicographic.{nat_list_cmp_total, pointwise}
use Rattle.std.specs.Ordering.{eq_by_cmp}
use Rattle.std.proofs.lemmas.Bool.{true≢false, false≢true, false_from_ne_true, and_parts, and_from}
use Rattle.std.proofs.lemmas.Map.Lookups.{exact_bytes}
use Rattle.std.proofs.lemmas.Map.Views.{tells_apart}
use Rattle.sp_base.specs.Names.{by_name}
use Rattle.sp_base.specs.Paths.{is_under}
use Rattle.sp_base.specs.declared.value.Value.{Value}
use Rattle.sp_base.proofs.OptionLemmas.{none_from_test}
use Rattle.resource_tree.specs.declared.nodes.Node.{Node}
use Rattle.resource_tree.specs.Content.{Content, by_path, empty_node, kid, name_of, node_at, parent_of, prop_at, same_path}
use Rattle.resource_tree.specs.Changes.{change_at, clearing, create_fault, creation, has_prop_at, removal, with_kid, with_value, without_kid, without_value}
use Rattle.resource_tree.proofs.PathLemmas.{cases_path, kid_parts, path_from_same, same_path_self}
use Rattle.resource_tree.proofs.NodeLookups.{node_at-change_at, node_at-insert_entry_other, node_at-insert_entry_same}
use Rattle.resource_tree.proofs.Creation.{no_fault}
use Rattle.resource_tree.proofs.Removal.{node_at-removal}
use Rattle.resource_tree.proofs.Under.{under_kid, under_root, under_self}
use Rattle.resource_tree.proofs.Update.{prop_at-with_value, prop_at-without_value}
use Rattle.post_apply.specs.Carries.{property_at}

-- ---- paths

pub not_root : (path : List (List ℕ)) → (length path == 0) ≡ false → path ≢ []
not_root path deep e = true≢false (sym (ap (λ (p : List (List ℕ)). length p == 0) e) ∙ deep)

pub same_parts : (one other : List (List ℕ)) → one ≢ [] → other ≢ [] → parent_of one ≡ parent_of other → name_of one ≡ name_of other → one ≡ other
same_parts one other deep deep_too above name =
    sym (kid_parts one deep) ∙ ap (λ (p : List (List ℕ)). kid p (name_of one)) above ∙ ap (kid (parent_of other)) name ∙ kid_parts other deep_too

-- what is under a path has all that goes on from it under it
under_more : (above path rest : List (List ℕ)) → is_under path above ≡ true → is_under (path ++ rest) above ≡ true
under_more [] path rest h = under_root (path ++ rest)
under_more (s ∷ above) [] rest h = absurd (false≢true h)
under_more (s ∷ above) (a ∷ path) rest h =
    let parts = and_parts (pointwise nat_eq s a) (is_under path above) h in and_from _ _ parts.0 (under_more above path rest parts.1)

-- a path is under its parent's parents, and its parent
under_parent : (path above : List (List ℕ)) → is_under (parent_of path) above ≡ true → is_under path above ≡ true
under_parent path above h =
    ⊎_elim
    (λ (root : path ≡ []). subst (λ (p : List (List ℕ)). is_under p above ≡ true) (ap parent_of root ∙ sym root) h)
    (λ (deep : path ≢ []). ap (λ (p : List (List ℕ)). is_under p above) (sym (kid_parts path deep)) ∙ under_kid above (parent_of path) (name_of path) h)
    (cases_path path [])

pub parent_clear : (path above : List (List ℕ)) → is_under path above ≡ false → is_under (parent_of path) above ≡ false
parent_clear path above clear = false_from_ne_true _ (λ is. true≢false (sym (under_parent path above is) ∙ clear))

pub first_clear : (path rest above : List (List ℕ)) → is_under (path ++ rest) above ≡ false → is_under path above ≡ false
first_clear path rest above clear = false_from_ne_true _ (λ is. true≢false (sym (under_more above path rest is) ∙ clear))

pub not_self : (path above : List (List ℕ)) → is_under path above ≡ false → path ≢ above
not_self path above clear e = true≢false (sym (under_self path) ∙ ap (is_under path) e ∙ clear)

pub not_the_root : (path above : List (List ℕ)) → is_under path above ≡ false → above ≢ []
not_the_root path above clear e = true≢false (sym (under_root path) ∙ ap (is_under path) (sym e) ∙ clear)

-- ---- the property at a path

module _ (path : List (List ℕ)) where
  abbrev its : Node → Option Value
  its node = prop_at node (name_of path)

  -- the property is gone, or as it was
  abbrev pub Loses : Content → Content → Type 0
  Loses t after = (property_at after path ≡ None) ⊎ (property_at after path ≡ property_at t path)

  pub lost : (t after : Content) → Loses t after → property_at t path ≡ None → property_at after path ≡ None
  lost t after so none = ⊎_elim (λ e. e) (λ e. e ∙ none) so

  pub prop_changed : (t : Content) (at : List (List ℕ)) (change : Node → Node) → ((node : Node) → same_path at (parent_of path) ≡ true → prop_at (change node) (name_of path) ≡ prop_at node (name_of path))
      → property_at (change_at t at change) path ≡ property_at t path
  prop_changed t at change keeps = ap (option_and_then its) (node_at-change_at t at change (parent_of path)) ∙ go (same_path at (parent_of path)) refl (node_at t (parent_of path))
    where
      go : (b : Bool) → same_path at (parent_of path) ≡ b → (o : Option Node) → option_and_then its (cond b (option_map change o) o) ≡ option_and_then its o
      go true e None = refl
      go true e (Some node) = keeps node e
      go false e o = refl

  -- another property is set
  pub prop_put : (t : Content) (other : List (List ℕ)) (value : Value) → other ≢ path → other ≢ [] → path ≢ []
      → property_at (change_at t (parent_of other) (with_value (name_of other) value)) path ≡ property_at t path
  prop_put t other value apart deep own_deep =
      prop_changed t (parent_of other) (with_value (name_of other) value) (λ node same.
      let named : eq_by_cmp by_name (name_of path) (name_of other) ≡ false = false_from_ne_true _ (λ is.
      apart (same_parts other path deep own_deep (path_from_same (parent_of other) (parent_of path) same) (sym (tells_apart exact_bytes (name_of path) (name_of other) is)))) in
      prop_at-with_value (name_of other) value node (name_of path) ∙ (rw named))

  pub prop_inserted : (t : Content) (x : List (List ℕ)) → parent_of path ≢ x → property_at (creation t x empty_node) path ≡ property_at t path
  prop_inserted t x apart =
      prop_changed (insert_entry by_path t x empty_node) (parent_of x) (with_kid (name_of x)) (λ node _. refl)
      ∙ ap (option_and_then its) (node_at-insert_entry_other t x empty_node (parent_of path) apart)

  pub prop_created : (t : Content) (x : List (List ℕ)) → Loses t (creation t x empty_node)
  prop_created t x =
      ⊎_elim
      (λ (is : parent_of path ≡ x). inl (prop_changed (insert_entry by_path t x empty_node) (parent_of x) (with_kid (name_of x)) (λ node _. refl)
      ∙ ap (λ (r : List (List ℕ)). option_and_then its (node_at (insert_entry by_path t x empty_node) r)) is ∙ ap (option_and_then its) (node_at-insert_entry_same t x empty_node)))
      (λ (apart : parent_of path ≢ x). inr (prop_inserted t x apart))
      (cases_path (parent_of path) x)

  pub prop_removed : (t : Content) (place : List (List ℕ)) → Loses t (removal t place)
  prop_removed t place = go (is_under (parent_of path) place) (same_path (parent_of place) (parent_of path)) (node_at t (parent_of path)) (ap (option_and_then its) (node_at-removal t place (parent_of path)))
    where
      go : (b c : Bool) (o : Option Node) → property_at (removal t place) path ≡ option_and_then its (cond b None (cond c (option_map (without_kid (name_of place)) o) o))
          → (property_at (removal t place) path ≡ None) ⊎ (property_at (removal t place) path ≡ option_and_then its o)
      go true c o e = inl e
      go false true None e = inl e
      go false true (Some node) e = inr e
      go false false o e = inr e

  pub prop_cleared : (t : Content) (at : List (List ℕ)) (name : List ℕ) → Loses t (clearing t at name)
  prop_cleared t at name = go (same_path at (parent_of path)) (node_at t (parent_of path)) (ap (option_and_then its) (node_at-change_at t at (without_value name) (parent_of path)))
    where
      by : (b : Bool) (node : Node) → property_at (clearing t at name) path ≡ cond b (its node) None → (property_at (clearing t at name) path ≡ None) ⊎ (property_at (clearing t at name) path ≡ its node)
      by true node e = inr e
      by false node e = inl e

      go : (b : Bool) (o : Option Node) → property_at (clearing t at name) path ≡ option_and_then its (cond b (option_map (without_value name) o) o)
          → (property_at (clearing t at name) path ≡ None) ⊎ (property_at (clearing t at name) path ≡ option_and_then its o)
      go true None e = inl e
      go true (Some node) e = by (not (eq_by_cmp by_name name (name_of path))) node (e ∙ prop_at-without_value name node (name_of path))
      go false o e = inr e

  pub prop_cleared_own : (t : Content) → property_at (clearing t (parent_of path) (name_of path)) path ≡ None
  prop_cleared_own t = ap (option_and_then its) (node_at-change_at t (parent_of path) (without_value (name_of path)) (parent_of path)) ∙ go (same_path (parent_of path) (parent_of path)) refl (node_at t (parent_of path))
    where
      named : eq_by_cmp by_name (name_of path) (name_of path) ≡ true
      named = (eq_by_cmp_equiv nat_list_cmp_total).refl (name_of path)

      go : (b : Bool) → same_path (parent_of path) (parent_of path) ≡ b → (o : Option Node) → option_and_then its (cond b (option_map (without_value (name_of path)) o) o) ≡ None
      go true e None = refl
      go true e (Some node) = prop_at-without_value (name_of path) node (name_of path) ∙ (rw named)
      go false e o = absurd (false≢true (sym e ∙ same_path_self (parent_of path)))

  -- where no property is there, none is found
  pub none_there : (t : Content) → has_prop_at t (parent_of path) (name_of path) ≡ false → property_at t path ≡ None
  none_there t e = go (node_at t (parent_of path)) e
    where
      go : (o : Option Node) → option_map_or (λ (node : Node). is_some (prop_at node (name_of path))) o false ≡ false → option_and_then its o ≡ None
      go None e = refl
      go (Some node) e = none_from_test (its node) e

-- ---- what a node that is made finds

pub nothing_free : (tree : Content) (path : List (List ℕ)) → create_fault tree path ≡ None → (node_at tree path ≡ None) × (has_prop_at tree (parent_of path) (name_of path) ≡ false)
nothing_free tree path e =
    let first = no_fault (is_none (node_at tree (parent_of path))) _ _ e in
    let second = no_fault (is_some (node_at tree path)) _ _ first.1 in
    let third = no_fault (has_prop_at tree (parent_of path) (name_of path)) _ _ second.1 in
    (none_from_test (node_at tree path) second.0, third.0)
