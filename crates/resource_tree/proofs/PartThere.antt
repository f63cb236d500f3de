-- The part at the target, by look-ups.
use Rattle.std.proofs.Common.{◌≡◌, ◌+◌, ◌<◌, ℕ, Bool, true, false, cond, ◌||◌, ◌&&◌, List, [], ◌∷◌, ◌++◌, take, get_or, map, length, refl, sym, ◌∙◌, ap, Some, None, Option, ⊎_elim}
use Rattle.std.specs.Prelude.{is_some, IsSome, option_map, filter}
use Rattle.std.specs.List.{list_any}
use Rattle.std.specs.Map.{set_value}
use Rattle.std.specs.Cmp.{eq_by_cmp_equiv}
use Rattle.std.specs.Cmp.Lexicographic.{nat_list_eq_equiv}
use Rattle.std.proofs.lemmas.Bool.{cases_Bool, and_parts, and_from, or_right, true≢false, false_from_ne_true}
use Rattle.std.proofs.lemmas.List.{take_more, map-append}
use Rattle.std.proofs.lemmas.List.Folds.{list_any-append, list_any_at}
use Rattle.std.proofs.lemmas.Map.{lookup-set_value}
use Rattle.sp_base.specs.Paths.{is_under}
use Rattle.sp_base.proofs.OptionLemmas.{none_from_test}
use Rattle.sp_base.proofs.OrderingLemmas.{by_path_total}
use Rattle.resource_tree.specs.declared.nodes.Node.{Node}
use Rattle.resource_tree.specs.declared.patch.PatchNode.{PatchNode}
use Rattle.resource_tree.specs.declared.patch.PatchNode.TheVariants as patch_node
use Rattle.resource_tree.specs.Content.{Content, same_path, node_at}
use Rattle.resource_tree.specs.Patches.{PatchEntries, entry_at, with_entry}
use Rattle.resource_tree.specs.Moves.{path_there, part_there}
use Rattle.resource_tree.proofs.PathLemmas.{path_from_same, same_path_self}
use Rattle.resource_tree.proofs.Copying.{there-back}

pub under_append : (p r : List (List ℕ)) → is_under (p ++ r) p ≡ true
under_append [] [] = refl
under_append [] (s ∷ r) = refl
under_append (s ∷ p) r = and_from _ _ (nat_list_eq_equiv.refl s) (under_append p r)

-- what is at the target is under it
pub under_there : (source target p : List (List ℕ)) → is_under (path_there source target p) target ≡ true
under_there source target p = under_append target _

pub same_there : (source target p q : List (List ℕ)) → is_under p source ≡ true → same_path q (path_there source target p) ≡ (is_under q target && same_path (path_there target source q) p)
same_there source target p q under =
    ⊎_elim
    (λ is.
    let e = path_from_same q (path_there source target p) is in
    let one : is_under q target ≡ true = ap (λ r. is_under r target) e ∙ under_there source target p in
    let back : path_there target source q ≡ p = ap (path_there target source) e ∙ there-back target source p under in
    let two : same_path (path_there target source q) p ≡ true = ap (λ r. same_path r p) back ∙ same_path_self p in
    is ∙ sym (and_from _ _ one two))
    (λ other. other ∙ sym (false_from_ne_true _ (λ both.
    let parts = and_parts (is_under q target) (same_path (path_there target source q) p) both in
    let e : path_there source target p ≡ q = ap (path_there source target) (sym (path_from_same _ p parts.1)) ∙ there-back source target q parts.0 in
    true≢false (sym (ap (same_path q) e ∙ same_path_self q) ∙ other))))
    (cases_Bool (same_path q (path_there source target p)))

one_entry : (u s : Bool) (node : Node) (o : Option Node) → cond (u && s) (Some (patch_node.Node node)) (cond u (option_map patch_node.Node o) None) ≡ cond u (option_map patch_node.Node (cond s (Some node) o)) None
one_entry true true node o = refl
one_entry true false node o = refl
one_entry false s node o = refl

alike : (u : Bool) (o : Option PatchNode) → o ≡ cond u o o
alike true o = refl
alike false o = refl

pub entry_at-part_there : (source target q : List (List ℕ)) (tree : Content) → entry_at (part_there tree source target) q ≡ cond (is_under q target) (option_map patch_node.Node (node_at tree (path_there target source q))) None
entry_at-part_there source target q [] = alike (is_under q target) None
entry_at-part_there source target q (e ∷ tree) =
    let rest = entry_at-part_there source target q tree in
    elim (is_under e.0 source) as (λ b. is_under e.0 source ≡ b → entry_at (map (λ e. (path_there source target e.0, patch_node.Node e.1)) (cond b (e ∷ filter (λ e. is_under e.0 source) tree) (filter (λ e. is_under e.0 source) tree))) q
    ≡ cond (is_under q target) (option_map patch_node.Node (cond (same_path (path_there target source q) e.0) (Some e.1) (node_at tree (path_there target source q)))) None) [
      | true ↦ λ under. ap (λ b. cond b (Some (patch_node.Node e.1)) (entry_at (part_there tree source target) q)) (same_there source target e.0 q under)
          ∙ ap (cond (is_under q target && same_path (path_there target source q) e.0) (Some (patch_node.Node e.1))) rest
          ∙ one_entry (is_under q target) (same_path (path_there target source q) e.0) e.1 _
      | false ↦ λ apart.
          let beside : same_path (path_there target source q) e.0 ≡ false =
          false_from_ne_true _ (λ is. true≢false (sym (under_there target source q) ∙ ap (λ r. is_under r source) (path_from_same _ e.0 is) ∙ apart)) in
          rest ∙ sym (ap (λ b. cond (is_under q target) (option_map patch_node.Node (cond b (Some e.1) (node_at tree (path_there target source q)))) None) beside)
    ] refl

any_there : (source target q : List (List ℕ)) (paths : List (List (List ℕ))) → ((p : List (List ℕ)) → list_any (same_path p) paths ≡ true → is_under p source ≡ true)
    → list_any (same_path q) (map (path_there source target) paths) ≡ (is_under q target && list_any (same_path (path_there target source q)) paths)
any_there source target q [] h = elim (is_under q target) as (λ u. false ≡ (u && false)) [ true ↦ refl | false ↦ refl ]
any_there source target q (p ∷ paths) h =
    let under = h p (ap (λ b. b || list_any (same_path p) paths) (same_path_self p)) in
    ap (λ b. b || list_any (same_path q) (map (path_there source target) paths)) (same_there source target p q under)
    ∙ ap (λ b. (is_under q target && same_path (path_there target source q) p) || b) (any_there source target q paths (λ r is. h r (or_right _ _ is)))
    ∙ both (is_under q target) _ _
  where
    both : (u a b : Bool) → ((u && a) || (u && b)) ≡ (u && (a || b))
    both true a b = refl
    both false a b = refl

-- the entries of all the paths are the part
pub all_there : (tree : Content) (source target q : List (List ℕ)) (paths : List (List (List ℕ))) → ((p : List (List ℕ)) → list_any (same_path p) paths ≡ (is_some (node_at tree p) && is_under p source))
    → cond (list_any (same_path q) (map (path_there source target) paths)) (option_map patch_node.Node (node_at tree (path_there target source q))) None ≡ entry_at (part_there tree source target) q
all_there tree source target q paths all =
    let back = path_there target source q in
    let any = any_there source target q paths (λ p is. (and_parts (is_some (node_at tree p)) (is_under p source) (sym (all p) ∙ is)).1) in
    let found = all back ∙ ap (λ b. is_some (node_at tree back) && b) (under_there target source q) in
    ap (λ b. cond b (option_map patch_node.Node (node_at tree back)) None) (any ∙ ap (λ b. is_under q target && b) found)
    ∙ gone (is_under q target) (node_at tree back)
    ∙ sym (entry_at-part_there source target q tree)
  where
    gone : (u : Bool) (o : Option Node) → cond (u && (is_some o && true)) (option_map patch_node.Node o) None ≡ cond u (option_map patch_node.Node o) None
    gone true None = refl
    gone true (Some n) = refl
    gone false o = refl

entry_at-push : (entries : PatchEntries) (p q : List (List ℕ)) (n : PatchNode) → entry_at (entries ++ (p, n) ∷ []) q ≡ cond (is_some (entry_at entries q)) (entry_at entries q) (cond (same_path q p) (Some n) None)
entry_at-push [] p q n = refl
entry_at-push (e ∷ entries) p q n =
    elim (same_path q e.0) as (λ b. cond b (Some e.1) (entry_at (entries ++ (p, n) ∷ []) q) ≡ cond (is_some (cond b (Some e.1) (entry_at entries q))) (cond b (Some e.1) (entry_at entries q)) (cond (same_path q p) (Some n) None)) [
      | true ↦ refl
      | false ↦ entry_at-push entries p q n
    ]

either : (o : Option PatchNode) → cond (is_some o) o None ≡ o
either None = refl
either (Some n) = refl

pub entry_at-with_entry : (entries : PatchEntries) (p q : List (List ℕ)) (n : PatchNode) → entry_at (with_entry entries p n) q ≡ cond (same_path p q) (Some n) (entry_at entries q)
entry_at-with_entry entries p q n =
    let laws = eq_by_cmp_equiv by_path_total in
    let turn : same_path q p ≡ same_path p q = laws.symm q p in
    ⊎_elim
    (λ there_. ap (λ b. entry_at (cond b (set_value (same_path p) entries n) (entries ++ (p, n) ∷ [])) q) there_
    ∙ lookup-set_value laws (same_path p) (λ x y is. ap (λ r. same_path r y) (path_from_same p x is)) q n entries there_)
    (λ none. ap (λ b. entry_at (cond b (set_value (same_path p) entries n) (entries ++ (p, n) ∷ [])) q) none
    ∙ entry_at-push entries p q n
    ∙ ap (λ b. cond (is_some (entry_at entries q)) (entry_at entries q) (cond b (Some n) None)) turn
    ∙ ⊎_elim
    (λ is. let gone : entry_at entries q ≡ None = ap (entry_at entries) (sym (path_from_same p q is)) ∙ none_from_test _ none in rw (is, gone))
    (λ other. ap (λ b. cond (is_some (entry_at entries q)) (entry_at entries q) (cond b (Some n) None)) other ∙ either (entry_at entries q) ∙ sym (ap (λ b. cond b (Some n) (entry_at entries q)) other))
    (cases_Bool (same_path p q)))
    (cases_Bool (is_some (entry_at entries p)))

module _ (tree : Content) (source target : List (List ℕ)) (paths : List (List (List ℕ))) (all : (p : List (List ℕ)) → list_any (same_path p) paths ≡ (is_some (node_at tree p) && is_under p source)) (i : ℕ) (path : List (List ℕ)) (within : i < length paths) (item : path ≡ get_or paths i path) where
  reached : (is_some (node_at tree path) && is_under path source) ≡ true
  reached = sym (all path) ∙ list_any_at (same_path path) paths i path within (ap (same_path path) (sym item) ∙ same_path_self path)

  pub is_there : IsSome (node_at tree path)
  is_there = (and_parts (is_some (node_at tree path)) (is_under path source) reached).0

  one_more : take (i + 1) paths ≡ take i paths ++ path ∷ []
  one_more = take_more paths i path within ∙ ap (λ (x : List (List ℕ)). take i paths ++ x ∷ []) (sym item)

  either_or : (a b : Bool) (x : Option PatchNode) → cond b x (cond a x None) ≡ cond (a || (b || false)) x None
  either_or true true x = refl
  either_or true false x = refl
  either_or false true x = refl
  either_or false false x = refl

  -- a loop over the paths that puts the node of each at the target, after one more
  pub put_there : (entries new : PatchEntries) (at_target : List (List ℕ)) (node : Node) (q : List (List ℕ)) → at_target ≡ path_there source target path → node_at tree path ≡ Some node
      → entry_at entries q ≡ cond (list_any (same_path q) (map (path_there source target) (take i paths))) (option_map patch_node.Node (node_at tree (path_there target source q))) None → new ≡ with_entry entries at_target (patch_node.Node node)
      → entry_at new q ≡ cond (list_any (same_path q) (map (path_there source target) (take (i + 1) paths))) (option_map patch_node.Node (node_at tree (path_there target source q))) None
  put_there entries new at_target node q is_target was so_far is =
      let under = (and_parts (is_some (node_at tree path)) (is_under path source) reached).1 in
      let f = path_there source target in
      let x : Option PatchNode = option_map patch_node.Node (node_at tree (path_there target source q)) in
      let any : list_any (same_path q) (map f (take (i + 1) paths)) ≡ (list_any (same_path q) (map f (take i paths)) || (same_path q at_target || false)) =
      ap (λ l. list_any (same_path q) (map f l)) one_more ∙ ap (list_any (same_path q)) (map-append f (take i paths) (path ∷ [])) ∙ list_any-append (same_path q) (map f (take i paths)) (f path ∷ [])
      ∙ ap (λ r. list_any (same_path q) (map f (take i paths)) || (same_path q r || false)) (sym is_target) in
      let turn : same_path q at_target ≡ same_path at_target q = (eq_by_cmp_equiv by_path_total).symm q at_target in
      let here : cond (same_path at_target q) (Some (patch_node.Node node)) (entry_at entries q) ≡ cond (same_path at_target q) x (entry_at entries q) =
      ⊎_elim
      (λ same.
      let e : path_there target source q ≡ path = ap (path_there target source) (sym (path_from_same at_target q same) ∙ is_target) ∙ there-back target source path under in
      let x_is : Some (patch_node.Node node) ≡ x = sym (ap (λ r. option_map patch_node.Node (node_at tree r)) e ∙ ap (option_map patch_node.Node) was) in
      ap (λ o. cond (same_path at_target q) o (entry_at entries q)) x_is)
      (λ other. ap (λ b. cond b (Some (patch_node.Node node)) (entry_at entries q)) other ∙ sym (ap (λ b. cond b x (entry_at entries q)) other))
      (cases_Bool (same_path at_target q)) in
      ap (λ (r : PatchEntries). entry_at r q) is
      ∙ entry_at-with_entry entries at_target q (patch_node.Node node)
      ∙ here
      ∙ ap (cond (same_path at_target q) x) so_far
      ∙ ap (λ b. cond b x (cond (list_any (same_path q) (map f (take i paths))) x None)) (sym turn)
      ∙ either_or (list_any (same_path q) (map f (take i paths))) (same_path q at_target) x
      ∙ sym (ap (λ b. cond b x None) any)

  pub fits_too : (test : List (List ℕ) → Bool) → list_any test (take i paths) ≡ false → test path ≡ false → list_any test (take (i + 1) paths) ≡ false
  fits_too test so_far this = ap (list_any test) one_more ∙ list_any-append test (take i paths) (path ∷ []) ∙ ap (λ b. b || (test path || false)) so_far ∙ ap (λ b. b || false) this
