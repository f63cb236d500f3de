-- Level by level, the paths at a path and under it are found.
use Rattle.std.proofs.Common.{◌≡◌, ◌<◌, ◌≤◌, ◌+◌, ◌-◌, ℕ, zero, suc, true, false, ◌||◌, ◌&&◌, List, [], ◌∷◌, ◌++◌, map, take, get_or, length, length-append, refl, sym, ◌∙◌, ap, subst, arith, ⊎_elim, Some, None}
use Rattle.std.specs.Prelude.{is_some, IsTrue, nat_eq}
use Rattle.std.specs.Cmp.Lexicographic.{pointwise, nat_list_eq_equiv, same_text}
use Rattle.std.specs.List.{AllByRecursion, list_any, list_all}
use Rattle.std.specs.Option.{option_map_or}
use Rattle.std.proofs.lemmas.Bool.{cases_Bool, false≢true, true≢false, and_parts, and_from, or_right, false_from_ne_true, leb-true}
use Rattle.std.proofs.lemmas.List.{take_more, map-append, append-nil, append_assoc}
use Rattle.std.proofs.lemmas.List.Folds.{list_any-append, list_all-append, list_any_at}
use Rattle.sp_base.specs.Paths.{is_under, seg_ok}
use Rattle.sp_base.proofs.ListLemmas.{all_append}
use Rattle.resource_tree.specs.declared.nodes.Node.{Node}
use Rattle.resource_tree.specs.Content.{Content, same_path, node_at, kid, empty_node, IsTree}
use Rattle.resource_tree.specs.Changes.{kids_at}
use Rattle.resource_tree.specs.Parts.{kids_below, levels}
use Rattle.resource_tree.proofs.PathLemmas.{path_from_same, same_path_self}
use Rattle.resource_tree.proofs.Creation.{some_from}
use Rattle.resource_tree.proofs.Under.{under_self, under_kid}

kid_append : (p : List (List ℕ)) (name : List ℕ) (s : List (List ℕ)) → kid p name ++ s ≡ p ++ name ∷ s
kid_append p name s = append_assoc p (name ∷ []) s

all_any : (P : List (List ℕ) → Type 0) (q : List (List ℕ)) (xs : List (List (List ℕ))) → AllByRecursion P xs → list_any (same_path q) xs ≡ true → P q
all_any P q [] a found = absurd (false≢true found)
all_any P q (x ∷ xs) a found =
    ⊎_elim
    (λ same. subst P (sym (path_from_same q x same)) a.0)
    (λ other. all_any P q xs a.1 (sym (ap (λ b. b || list_any (same_path q) xs) other) ∙ found))
    (cases_Bool (same_path q x))

-- a path under another as that one and more segments
pub record Split (path q : List (List ℕ)) : Type 0 where
  pub rest : List (List ℕ)
  pub whole : path ++ rest ≡ q

pub under_split : (path q : List (List ℕ)) → is_under q path ≡ true → Split path q
under_split [] q h = record { rest = q; whole = refl }
under_split (s ∷ path) [] h = absurd (false≢true h)
under_split (s ∷ path) (a ∷ q) h =
    let parts = and_parts (pointwise nat_eq s a) (is_under q path) h in
    let tail = under_split path q parts.1 in
    record { rest = tail.rest; whole = ap (λ (t : List ℕ). t ∷ path ++ tail.rest) (same_text s a (sym parts.0)) ∙ ap (λ (p : List (List ℕ)). a ∷ p) tail.whole }

module _ (tree : Content) (good : IsTree (node_at tree)) where
  abbrev there : List (List ℕ) → Type 0
  there q = is_some (node_at tree q) ≡ true

  pub kids_at-is : (path : List (List ℕ)) (name : List ℕ) → list_any (pointwise nat_eq name) (kids_at tree path) ≡ is_some (node_at tree (kid path name))
  kids_at-is path name =
      elim (node_at tree path) as (λ o. node_at tree path ≡ o → list_any (pointwise nat_eq name) (option_map_or (λ (node : Node). node.kids) o []) ≡ is_some (node_at tree (kid path name))) [
        | None ↦ λ gone. sym (false_from_ne_true _ (λ is. false≢true (sym (ap is_some gone) ∙ good.parents path name is)))
        | Some node ↦ λ was. (good.nodes path node was).kids name
      ] refl

  pub depth_there : (q : List (List ℕ)) → there q → length q ≤ 64
  depth_there q is = leb-true _ _ (and_parts (list_all seg_ok q) _ (good.nodes q _ (some_from (node_at tree q) empty_node is)).is_a_path).1

  seg_there : (path : List (List ℕ)) (name : List ℕ) → there (kid path name) → IsTrue (seg_ok name)
  seg_there path name is =
      let valid = (and_parts (list_all seg_ok (kid path name)) _ (good.nodes (kid path name) _ (some_from (node_at tree (kid path name)) empty_node is)).is_a_path).0 in
      let last = (and_parts (list_all seg_ok path) (list_all seg_ok (name ∷ [])) (sym (list_all-append seg_ok path (name ∷ [])) ∙ valid)).1 in
      (and_parts (seg_ok name) true last).0

  -- a loop over the kids' names that adds the path of each, after one more
  pub pushed : (path : List (List ℕ)) (names : List (List ℕ)) (i : ℕ) (name : List ℕ) (below : List (List ℕ)) (old now new : List (List (List ℕ))) → names ≡ kids_at tree path → i < length names → name ≡ get_or names i name
      → (IsTrue (seg_ok name) → below ≡ kid path name) → now ≡ old ++ map (kid path) (take i names) → new ≡ now ++ below ∷ [] → new ≡ old ++ map (kid path) (take (i + 1) names)
  pushed path names i name below old now new are within item whole so_far is =
      let any : list_any (pointwise nat_eq name) names ≡ true = list_any_at (pointwise nat_eq name) names i name within (ap (pointwise nat_eq name) (sym item) ∙ nat_list_eq_equiv.refl name) in
      let here : there (kid path name) = sym (kids_at-is path name) ∙ ap (list_any (pointwise nat_eq name)) (sym are) ∙ any in
      let below_is = whole (seg_there path name here) in
      let more : take (i + 1) names ≡ take i names ++ name ∷ [] = take_more names i name within ∙ ap (λ (x : List ℕ). take i names ++ x ∷ []) (sym item) in
      is ∙ ap (λ (p : List (List ℕ)). now ++ p ∷ []) below_is
      ∙ ap (λ l. l ++ kid path name ∷ []) so_far
      ∙ append_assoc old (map (kid path) (take i names)) (kid path name ∷ [])
      ∙ ap (λ l. old ++ l) (sym (map-append (kid path) (take i names) (name ∷ [])) ∙ ap (map (kid path)) (sym more))

  kids_below-append : (xs ys : List (List (List ℕ))) → kids_below tree (xs ++ ys) ≡ kids_below tree xs ++ kids_below tree ys
  kids_below-append [] ys = refl
  kids_below-append (x ∷ xs) ys = ap (λ l. map (kid x) (kids_at tree x) ++ l) (kids_below-append xs ys) ∙ sym (append_assoc (map (kid x) (kids_at tree x)) (kids_below tree xs) (kids_below tree ys))

  -- a loop over a level that adds the paths of each node's kids, after one more
  pub more_below : (level : List (List (List ℕ))) (i : ℕ) (path : List (List ℕ)) (now new : List (List (List ℕ))) → i < length level → path ≡ get_or level i path → now ≡ kids_below tree (take i level) → new ≡ now ++ map (kid path) (kids_at tree path)
      → new ≡ kids_below tree (take (i + 1) level)
  more_below level i path now new within item so_far is =
      let more : take (i + 1) level ≡ take i level ++ path ∷ [] = take_more level i path within ∙ ap (λ (x : List (List ℕ)). take i level ++ x ∷ []) (sym item) in
      is ∙ ap (λ l. l ++ map (kid path) (kids_at tree path)) so_far
      ∙ ap (λ l. kids_below tree (take i level) ++ l) (sym (append-nil (map (kid path) (kids_at tree path))))
      ∙ sym (ap (kids_below tree) more ∙ kids_below-append (take i level) (path ∷ []))

  -- a loop over the levels, after one more
  pub next_level : (n i : ℕ) (all paths level new next : List (List (List ℕ))) → i < n → paths ++ levels tree (n - i) level ≡ all → new ≡ paths ++ level → next ≡ kids_below tree level → new ++ levels tree (n - (i + 1)) next ≡ all
  unfolding levels
  next_level n i all paths level new next within so_far is are =
      let one : n - i ≡ suc (n - (i + 1)) = omega (arith, within) in
      ap (λ l. l ++ levels tree (n - (i + 1)) next) is
      ∙ ap (λ l. (paths ++ level) ++ levels tree (n - (i + 1)) l) are
      ∙ append_assoc paths level (levels tree (n - (i + 1)) (kids_below tree level))
      ∙ ap (λ k. paths ++ levels tree k level) (sym one)
      ∙ so_far

  -- the same at its end
  pub last_level : (n i : ℕ) (all paths level : List (List (List ℕ))) → n - i ≡ 0 → paths ++ levels tree (n - i) level ≡ all → paths ≡ all
  unfolding levels
  last_level n i all paths level none so_far = sym (append-nil paths) ∙ ap (λ k. paths ++ levels tree k level) (sym none) ∙ so_far

  pub prefix : (p s : List (List ℕ)) → there (p ++ s) → there p
  prefix p [] is = ap (λ q. is_some (node_at tree q)) (sym (append-nil p)) ∙ is
  prefix p (name ∷ s) is = good.parents p name (prefix (kid p name) s (ap (λ q. is_some (node_at tree q)) (kid_append p name s) ∙ is))

  -- ---- each path that is found is one at the path or under it

  abbrev Reached : List (List ℕ) → List (List ℕ) → Type 0
  Reached path q = there q × (is_under q path ≡ true)

  kids_reached : (path p : List (List ℕ)) → Reached path p → (names : List (List ℕ)) → ((name : List ℕ) → list_any (pointwise nat_eq name) names ≡ true → there (kid p name)) → AllByRecursion (Reached path) (map (kid p) names)
  kids_reached path p r [] h = tt
  kids_reached path p r (name ∷ names) h = (
    (h name (ap (λ b. b || list_any (pointwise nat_eq name) names) (nat_list_eq_equiv.refl name)), under_kid path p name r.1),
    kids_reached path p r names (λ k is. h k (or_right _ _ is)),
  )

  below_reached : (path : List (List ℕ)) (level : List (List (List ℕ))) → AllByRecursion (Reached path) level → AllByRecursion (Reached path) (kids_below tree level)
  below_reached path [] r = tt
  below_reached path (p ∷ level) r =
      all_append (Reached path) (map (kid p) (kids_at tree p)) (kids_below tree level) (kids_reached path p r.0 (kids_at tree p) (λ name is. sym (kids_at-is p name) ∙ is)) (below_reached path level r.1)

  sound : (path : List (List ℕ)) (n : ℕ) (level : List (List (List ℕ))) → AllByRecursion (Reached path) level → AllByRecursion (Reached path) (levels tree n level)
  unfolding levels
  sound path zero level r = tt
  sound path (suc n) level r = all_append (Reached path) level (levels tree n (kids_below tree level)) r (sound path n (kids_below tree level) (below_reached path level r))

  -- ---- each path at the path or under it is found

  in_map : (p : List (List ℕ)) (name : List ℕ) (names : List (List ℕ)) → list_any (pointwise nat_eq name) names ≡ true → list_any (same_path (kid p name)) (map (kid p) names) ≡ true
  in_map p name [] is = absurd (false≢true is)
  in_map p name (k ∷ names) is =
      ⊎_elim
      (λ same. ap (λ b. b || list_any (same_path (kid p name)) (map (kid p) names)) (ap (λ t. same_path (kid p name) (kid p t)) (sym (same_text name k (sym same))) ∙ same_path_self (kid p name)))
      (λ other. or_right _ _ (in_map p name names (sym (ap (λ b. b || list_any (pointwise nat_eq name) names) other) ∙ is)))
      (cases_Bool (pointwise nat_eq name k))

  in_below : (p : List (List ℕ)) (name : List ℕ) (level : List (List (List ℕ))) → list_any (same_path p) level ≡ true → list_any (pointwise nat_eq name) (kids_at tree p) ≡ true → list_any (same_path (kid p name)) (kids_below tree level) ≡ true
  in_below p name [] is named = absurd (false≢true is)
  in_below p name (x ∷ level) is named =
      list_any-append (same_path (kid p name)) (map (kid x) (kids_at tree x)) (kids_below tree level)
      ∙ ⊎_elim
      (λ same. ap (λ b. b || list_any (same_path (kid p name)) (kids_below tree level))
      (subst (λ (y : List (List ℕ)). list_any (same_path (kid p name)) (map (kid y) (kids_at tree y)) ≡ true) (path_from_same p x same) (in_map p name (kids_at tree p) named)))
      (λ other. or_right _ _ (in_below p name level (sym (ap (λ b. b || list_any (same_path p) level) other) ∙ is) named))
      (cases_Bool (same_path p x))

  complete : (n : ℕ) (level : List (List (List ℕ))) (p s : List (List ℕ)) → list_any (same_path p) level ≡ true → there (p ++ s) → length s < n → list_any (same_path (p ++ s)) (levels tree n level) ≡ true
  unfolding levels
  complete zero level p s is here short = absurd (omega (arith, short))
  complete (suc n) level p [] is here short =
      ap (λ q. list_any (same_path q) (level ++ levels tree n (kids_below tree level))) (append-nil p)
      ∙ list_any-append (same_path p) level (levels tree n (kids_below tree level))
      ∙ ap (λ b. b || list_any (same_path p) (levels tree n (kids_below tree level))) is
  complete (suc n) level p (name ∷ s) is here short =
      let further : there (kid p name ++ s) = ap (λ q. is_some (node_at tree q)) (kid_append p name s) ∙ here in
      let next = in_below p name level is (kids_at-is p name ∙ prefix (kid p name) s further) in
      let fewer : length s < n = omega (arith, short) in
      let found = complete n (kids_below tree level) (kid p name) s next further fewer in
      list_any-append (same_path (p ++ name ∷ s)) level (levels tree n (kids_below tree level))
      ∙ or_right _ _ (ap (λ q. list_any (same_path q) (levels tree n (kids_below tree level))) (sym (kid_append p name s)) ∙ found)

  pub levels-is : (path q : List (List ℕ)) → there path → list_any (same_path q) (levels tree 65 (path ∷ [])) ≡ (is_some (node_at tree q) && is_under q path)
  levels-is path q at_path =
      ⊎_elim
      (λ both.
      let parts = and_parts (is_some (node_at tree q)) (is_under q path) both in
      let split = under_split path q parts.1 in
      let deep = depth_there q parts.0 in
      let size : length path + length split.rest ≡ length q = sym (length-append path split.rest) ∙ ap length split.whole in
      let short : length split.rest < 65 = omega (arith, deep, size) in
      let start : list_any (same_path path) (path ∷ []) ≡ true = ap (λ b. b || false) (same_path_self path) in
      ap (λ p. list_any (same_path p) (levels tree 65 (path ∷ []))) (sym split.whole) ∙ complete 65 (path ∷ []) path split.rest start (ap (λ p. is_some (node_at tree p)) split.whole ∙ parts.0) short ∙ sym both)
      (λ neither.
      false_from_ne_true _ (λ found.
      let r = all_any (Reached path) q (levels tree 65 (path ∷ [])) (sound path 65 (path ∷ []) ((at_path, under_self path), tt)) found in
      true≢false (sym (and_from _ _ r.0 r.1) ∙ neither)) ∙ sym neither)
      (cases_Bool (is_some (node_at tree q) && is_under q path))
