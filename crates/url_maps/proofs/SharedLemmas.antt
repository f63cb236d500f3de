-- A text that one node claims as its alias is named by it; of the others the first sibling is put over their claims.
use Rattle.std.proofs.Common.{◌≡◌, ◌<◌, ℕ, Bool, true, false, cond, List, [], ◌∷◌, ◌++◌, Option, Some, None, length, get_or, map, refl, sym, ◌∙◌, ap, ⊎_elim, arith}
use Rattle.std.specs.Prelude.{◌||◌, ◌&&◌, find, is_some, nat_eq, option_map, option_to_list}
use Rattle.std.specs.Cmp.Lexicographic.{pointwise, same_text}
use Rattle.std.specs.List.{AllByRecursion, list_any}
use Rattle.std.specs.Map.{lookup}
use Rattle.std.specs.Option.{option_map_or}
use Rattle.std.specs.Str.{bytes_eq}
use Rattle.std.proofs.lemmas.Bool.{cases_Bool, true≢false, false≢true, and_parts}
use Rattle.std.proofs.lemmas.List.Folds.{list_any-append}
use Rattle.sp_base.specs.Paths.{is_path, parent_of, text_of}
use Rattle.sp_base.proofs.BoolLemmas.{or_false, or_true}
use Rattle.sp_base.proofs.ListLemmas.{find_passes}
use Rattle.sp_base.proofs.OptionLemmas.{value_there}
use Rattle.resource_tree.specs.Content.{Content, IsTree, has_kid, kid, name_of, node_at, same_path}
use Rattle.resource_tree.proofs.PathLemmas.{parent_of-kid, path_from_same, same_path_self}
use Rattle.resource_tree.proofs.SamePaths.{kid_of_parent}
use Rattle.url_maps.specs.Claims.{AreClaims, ClaimRows, NamesFirst, claimants, claims_alias, claims_by, first_claimant, kids_by}
use Rattle.url_maps.specs.Siblings.{HasParent, IsWithin, PutsFamilies}
use Rattle.url_maps.proofs.AliasLemmas.{claimant_is, find_any}
use Rattle.url_maps.proofs.PathLemmas.{IsReadBack, path_from_text, valid_sibling}
use Rattle.url_maps.proofs.SiblingLemmas.{claims_by_is}

-- ---- the parents of those that share a text

pub few : (parents paths : List (List (List ℕ))) → length paths < 2 → HasParent parents paths
few parents [] small = tt
few parents (p ∷ []) small = tt
few parents (p ∷ q ∷ paths) small = absurd (omega (arith, small))

pub several : (parents paths : List (List (List ℕ))) (d : List (List ℕ)) → list_any (same_path (parent_of (get_or paths 0 d))) parents ≡ true → HasParent parents paths
several parents [] d among = tt
several parents (p ∷ []) d among = tt
several parents (p ∷ q ∷ paths) d among = among

kept : (old new paths : List (List (List ℕ))) → IsWithin old new → HasParent old paths → HasParent new paths
kept old new [] within has = tt
kept old new (p ∷ []) within has = tt
kept old new (p ∷ q ∷ paths) within has = within (parent_of p) has

-- one path more
pub last_among : (paths : List (List (List ℕ))) (path : List (List ℕ)) → list_any (same_path path) (paths ++ path ∷ []) ≡ true
last_among paths path = list_any-append (same_path path) paths (path ∷ []) ∙ ap (λ b. list_any (same_path path) paths || b) (or_false (same_path path path) ∙ same_path_self path) ∙ or_true (list_any (same_path path) paths)

pub others_among : (paths : List (List (List ℕ))) (path : List (List ℕ)) → IsWithin paths (paths ++ path ∷ [])
others_among paths path q among = list_any-append (same_path q) paths (path ∷ []) ∙ ap (λ b. b || list_any (same_path q) (path ∷ [])) among

-- of each of some lists
abbrev pub HaveParents : List (List (List ℕ)) → List (List (List (List ℕ))) → Type 0
HaveParents parents lists = AllByRecursion (HasParent parents) lists

pub more_parents : (old new : List (List (List ℕ))) (lists : List (List (List (List ℕ)))) (paths : List (List (List ℕ))) → IsWithin old new → HaveParents old lists → HasParent new paths → HaveParents new (lists ++ paths ∷ [])
more_parents old new [] paths within so_far has = (has, tt)
more_parents old new (l ∷ lists) paths within so_far has = (kept old new l within so_far.0, more_parents old new lists paths within so_far.1 has)

pub row_parents : {K : Type 0} (f : K → List ℕ) (parents : List (List (List ℕ))) (rows : List (K × List (List (List ℕ)))) → HaveParents parents (map (λ e. e.1) rows) → (t : List ℕ) → HasParent parents (claimants (map (λ e. (f e.0, e.1)) rows) t)
row_parents {K = K} f parents [] all t = tt
row_parents {K = K} f parents ((k, paths) ∷ rows) all t =
    elim (bytes_eq t (f k)) as (λ b. HasParent parents (option_map_or (λ (ps : List (List (List ℕ))). ps) (cond b (Some paths) (lookup (bytes_eq t) (map (λ (e : K × List (List (List ℕ))). (f e.0, e.1)) rows))) [])) [
      | true ↦ all.0
      | false ↦ row_parents f parents rows all.1 t
    ]

-- ---- the first of the siblings that claim a text

kid_of : (parent : List (List ℕ)) (o : Option (List ℕ)) (path : List (List ℕ)) → option_map (kid parent) o ≡ Some path → (name : List ℕ) × (o ≡ Some name) × (kid parent name ≡ path)
kid_of parent None path is = cc
kid_of parent (Some name) path is = let same : kid parent name ≡ path = cc in (name, refl, same)

-- a name that passes, among others
any_named : (test : List ℕ → Bool) (name : List ℕ) (names : List (List ℕ)) → list_any (pointwise nat_eq name) names ≡ true → test name ≡ true → list_any test names ≡ true
any_named test name [] among passes = among
any_named test name (n ∷ names) among passes =
    ⊎_elim
    (λ (same : pointwise nat_eq name n ≡ true). ap (λ b. b || list_any test names) (ap test (sym (same_text name n (sym same))) ∙ passes))
    (λ (other : pointwise nat_eq name n ≡ false).
    ap (λ b. test n || b) (any_named test name names (sym (ap (λ b. b || list_any (pointwise nat_eq name) names) other) ∙ among) passes) ∙ or_true (test n))
    (cases_Bool (pointwise nat_eq name n))

module _ (read : IsReadBack) (tree : Content) (good : IsTree (node_at tree)) (q : List (List ℕ)) (valid : is_path q ≡ true) where
  abbrev claims : List ℕ → Bool
  claims name = claims_by (node_at tree) (kid (parent_of q) name) (text_of q)

  abbrev first : Option (List (List ℕ))
  first = first_claimant (node_at tree) (parent_of q) (text_of q)

  -- a node that claims the text of a path is the path's sibling
  sibling : (p : List (List ℕ)) → claims_alias tree p (text_of q) ≡ true → parent_of p ≡ parent_of q
  sibling p is =
      let c = claimant_is read tree good p (text_of q) is in
      let whole = kid_of_parent p c.below in
      let alias_valid = valid_sibling (parent_of p) (name_of p) c.alias (ap is_path whole ∙ (good.nodes p c.node c.there).is_a_path) c.segment in
      let one : q ≡ kid (parent_of p) c.alias = path_from_text read q (kid (parent_of p) c.alias) valid alias_valid c.spelled in
      sym (ap parent_of one ∙ parent_of-kid (parent_of p) c.alias)

  -- and one of its siblings is the first
  has_first : (p : List (List ℕ)) → claims_alias tree p (text_of q) ≡ true → is_some first ≡ true
  has_first p is =
      let c = claimant_is read tree good p (text_of q) is in
      let whole : kid (parent_of q) (name_of p) ≡ p = ap (λ r. kid r (name_of p)) (sym (sibling p is)) ∙ kid_of_parent p c.below in
      let there : is_some (node_at tree (kid (parent_of q) (name_of p))) ≡ true = ap (λ r. is_some (node_at tree r)) whole ∙ ap is_some c.there in
      let above = value_there (node_at tree (parent_of q)) (good.parents (parent_of q) (name_of p) there) in
      let among : has_kid above.0 (name_of p) ≡ true = (good.nodes (parent_of q) above.0 above.1).kids (name_of p) ∙ there in
      let passes : claims (name_of p) ≡ true = claims_by_is read tree good (kid (parent_of q) (name_of p)) (text_of q) ∙ ap (λ r. claims_alias tree r (text_of q)) whole ∙ is in
      let found = find_any claims above.0.kids (any_named claims (name_of p) above.0.kids among passes) in
      ap (λ o. is_some (option_map (kid (parent_of q)) (find claims (option_map_or (λ n. n.kids) o [])))) above.1 ∙ ap (λ o. is_some (option_map (kid (parent_of q)) o)) found.is

  -- the first claims the text
  first_claims : (f : List (List ℕ)) → first ≡ Some f → claims_alias tree f (text_of q) ≡ true
  first_claims f is =
      let k = kid_of (parent_of q) (find claims (kids_by (node_at tree) (parent_of q))) f is in
      ap (λ r. claims_alias tree r (text_of q)) (sym k.2) ∙ sym (claims_by_is read tree good (kid (parent_of q) k.0) (text_of q))
      ∙ find_passes claims (kids_by (node_at tree) (parent_of q)) k.0 k.1

  -- claimants of whom the first is none that is put over them
  alone : (paths parents once : List (List (List ℕ))) → ((p : List (List ℕ)) → list_any (same_path p) paths ≡ claims_alias tree p (text_of q)) → HasParent parents paths
      → ((r : List (List ℕ)) → list_any (same_path r) once ≡ list_any (same_path r) parents) → (list_any (same_path (parent_of q)) once && is_some first) ≡ false → paths ≡ option_to_list first
  alone [] parents once are has same none =
      elim first as (λ o. first ≡ o → [] ≡ option_to_list o) [
        | None ↦ λ is. refl
        | Some f ↦ λ is. absurd (false≢true (are f ∙ first_claims f is))
      ] refl
  alone (p ∷ []) parents once are has same none =
      let f = value_there first (has_first p (sym (are p) ∙ ap (λ b. b || false) (same_path_self p))) in
      let one : f.0 ≡ p = path_from_same f.0 p (sym (or_false (same_path f.0 p)) ∙ are f.0 ∙ first_claims f.0 f.1) in
      ap (λ r. r ∷ []) (sym one) ∙ sym (ap option_to_list f.1)
  alone (p ∷ r ∷ paths) parents once are has same none =
      let is : claims_alias tree p (text_of q) ≡ true = sym (are p) ∙ ap (λ b. b || list_any (same_path p) (r ∷ paths)) (same_path_self p) in
      let among : list_any (same_path (parent_of q)) once ≡ true = same (parent_of q) ∙ ap (λ s. list_any (same_path s) parents) (sym (sibling p is)) ∙ has in
      absurd (true≢false (sym (ap (λ b. b && is_some first) among ∙ has_first p is) ∙ none))

  -- the rows of the first siblings over all claims
  pub first_over : (old changed new : ClaimRows) (parents once : List (List (List ℕ))) → 0 < length q → ((p : List (List ℕ)) → list_any (same_path p) (claimants old (text_of q)) ≡ claims_alias tree p (text_of q)) → HasParent parents (claimants old (text_of q))
      → ((r : List (List ℕ)) → list_any (same_path r) once ≡ list_any (same_path r) parents) → PutsFamilies (node_at tree) true once [] changed
      → claimants new (text_of q) ≡ option_map_or (λ paths. paths) (lookup (bytes_eq (text_of q)) changed) (claimants old (text_of q)) → claimants new (text_of q) ≡ option_to_list first
  first_over old changed new parents once below are has same puts over =
      let among = list_any (same_path (parent_of q)) once in
      let paths = claimants old (text_of q) in
      over ∙ (elim (lookup (bytes_eq (text_of q)) changed) as (λ o. option_map_or (λ ps. ps) o [] ≡ cond among (option_to_list first) [] → is_some o ≡ (among && is_some first) → option_map_or (λ ps. ps) o paths ≡ option_to_list first) [
        | None ↦ λ put row. alone paths parents once are has same (sym row)
        | Some ps ↦ λ put row. put ∙ ap (λ b. cond b (option_to_list first) []) (and_parts among (is_some first) (sym row)).0
      ] (puts.paths q valid below) (puts.has q valid below))

pub names_over_claims : IsReadBack → (tree : Content) → IsTree (node_at tree) → (old changed new : ClaimRows) (parents once : List (List (List ℕ))) → AreClaims (claims_alias tree) old → ((t : List ℕ) → HasParent parents (claimants old t))
    → ((r : List (List ℕ)) → list_any (same_path r) once ≡ list_any (same_path r) parents) → PutsFamilies (node_at tree) true once [] changed
    → ((t : List ℕ) → claimants new t ≡ option_map_or (λ paths. paths) (lookup (bytes_eq t) changed) (claimants old t)) → NamesFirst (node_at tree) new
names_over_claims read tree good old changed new parents once are has same puts over q valid below = first_over read tree good q valid old changed new parents once below (are (text_of q)) (has (text_of q)) same puts (over (text_of q))
