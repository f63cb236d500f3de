-- From the claimants of a text to the node that it names by an alias, and back.
use Rattle.std.proofs.Common.{◌≡◌, ◌<◌, ℕ, Bool, true, false, cond, List, [], ◌∷◌, Some, None, length, refl, sym, ◌∙◌, ap, ⊎_elim, arith}
use Rattle.std.specs.Prelude.{◌||◌, ◌&&◌, ◌==◌, not, nat_eq, codes, find}
use Rattle.std.specs.Cmp.Lexicographic.{pointwise, same_text}
use Rattle.std.specs.List.{list_any}
use Rattle.std.specs.Option.{option_map_or}
use Rattle.std.proofs.lemmas.Bool.Decides.{nat_tests}
use Rattle.std.proofs.lemmas.Bool.{cases_Bool, false≢true, and_parts}
use Rattle.sp_base.specs.Paths.{is_path, parent_of, seg_ok, text_of}
use Rattle.resource_tree.specs.declared.nodes.Node.{Node}
use Rattle.resource_tree.specs.Content.{Content, IsTree, kid, node_at, prop_at}
use Rattle.resource_tree.specs.Changes.{kids_at}
use Rattle.resource_tree.proofs.PathLemmas.{parent_of-kid}
use Rattle.sp_base.specs.Properties.{value_texts}
use Rattle.sp_base.proofs.ListLemmas.{find_passes}
use Rattle.url_maps.specs.Aliases.{IsAlias, has_alias}
use Rattle.url_maps.specs.Claims.{claims_alias, node_claims_alias, spells_alias}
use Rattle.url_maps.proofs.PathLemmas.{IsReadBack, length_kid-is, spells_is, valid_sibling}

-- ---- searches in lists

pub find_alike : {X : Type 0} (f g : X → Bool) → ((x : X) → f x ≡ g x) → (xs : List X) → find f xs ≡ find g xs
find_alike f g h xs = λ i. find (λ x. h x i) xs

pub any_alike : {X : Type 0} (f g : X → Bool) → ((x : X) → f x ≡ g x) → (xs : List X) → list_any f xs ≡ list_any g xs
any_alike f g h xs = λ i. list_any (λ x. h x i) xs

pub record Found {X : Type 0} (test : X → Bool) (xs : List X) : Type 0 where
  pub item : X
  pub is : find test xs ≡ Some item
  pub passes : test item ≡ true

pub find_any : {X : Type 0} (test : X → Bool) (xs : List X) → list_any test xs ≡ true → Found test xs
find_any test [] any = absurd (false≢true any)
find_any test (x ∷ xs) any =
    ⊎_elim
    (λ (passes_it : test x ≡ true). record { item = x; is = ap (λ b. cond b (Some x) (find test xs)) passes_it; passes = passes_it })
    (λ (fails : test x ≡ false).
    let rest = find_any test xs (sym (ap (λ b. b || list_any test xs) fails) ∙ any) in
    record { item = rest.item; is = ap (λ b. cond b (Some x) (find test xs)) fails ∙ rest.is; passes = rest.passes })
    (cases_Bool (test x))

-- ---- claims and aliases

pub not_root : (q : List (List ℕ)) → 0 < length q → (length q == 0) ≡ false
not_root [] some = absurd (omega (arith, some))
not_root (s ∷ q) some = grind (arith, nat_tests)

-- what a claimant of a text is: a node that is below another and has an alias that the text spells
pub record Claimant (tree : Content) (q : List (List ℕ)) (text : List ℕ) : Type 0 where
  pub node : Node
  pub there : node_at tree q ≡ Some node
  pub below : 0 < length q
  pub alias : List ℕ
  pub segment : seg_ok alias ≡ true
  pub spelled : text ≡ text_of (kid (parent_of q) alias)

module _ (read : IsReadBack) (tree : Content) (good : IsTree (node_at tree)) where
  there_valid : (q : List (List ℕ)) (node : Node) → node_at tree q ≡ Some node → is_path q ≡ true
  there_valid q node is = (good.nodes q node is).is_a_path

  -- a node's claims on the text of an alias are its aliases
  pub claims_is : (p : List (List ℕ)) (name alias : List ℕ) → seg_ok alias ≡ true → claims_alias tree (kid p name) (text_of (kid p alias)) ≡ has_alias tree (kid p name) alias
  unfolding claims_alias node_claims_alias has_alias
  claims_is p name alias segment =
      let text = text_of (kid p alias) in
      elim (node_at tree (kid p name)) as (λ o. node_at tree (kid p name) ≡ o → option_map_or (λ (node : Node). node_claims_alias (kid p name) node text) o false ≡ option_map_or (λ (node : Node). list_any (pointwise nat_eq alias) (value_texts (prop_at node (codes "sling:alias")))) o false) [
        | None ↦ λ is. refl
        | Some node ↦ λ is.
            let valid = valid_sibling p name alias (there_valid (kid p name) node is) segment in
            let words = value_texts (prop_at node (codes "sling:alias")) in
            let below : (length (kid p name) == 0) ≡ false = not_root (kid p name) (length_kid-is p name) in
            ap (λ b. not b && list_any (spells_alias (kid p name) text) words) below
            ∙ any_alike (spells_alias (kid p name) text) (pointwise nat_eq alias) (λ word. ap (λ r. seg_ok word && pointwise nat_eq text (text_of (kid r word))) (parent_of-kid p name) ∙ spells_is read p alias word valid segment) words
      ] refl

  pub claimant_is : (q : List (List ℕ)) (text : List ℕ) → claims_alias tree q text ≡ true → Claimant tree q text
  unfolding claims_alias node_claims_alias
  claimant_is q text claims =
      elim (node_at tree q) as (λ o. node_at tree q ≡ o → option_map_or (λ (node : Node). node_claims_alias q node text) o false ≡ true → Claimant tree q text) [
        | None ↦ λ is fails. absurd (false≢true fails)
        | Some node ↦ λ is passes_it.
            let parts = and_parts (not (length q == 0)) (list_any (spells_alias q text) (value_texts (prop_at node (codes "sling:alias")))) passes_it in
            let found = find_any (spells_alias q text) (value_texts (prop_at node (codes "sling:alias"))) parts.1 in
            let both = and_parts (seg_ok found.item) (pointwise nat_eq text (text_of (kid (parent_of q) found.item))) found.passes in
            record {
              node = node;
              there = is;
              below = grind (arith, nat_tests, parts.0);
              alias = found.item;
              segment = both.0;
              spelled = same_text text (text_of (kid (parent_of q) found.item)) (sym both.1);
            }
      ] refl claims

  -- what an alias names claims its text
  pub alias_claims : (text : List ℕ) (path : List (List ℕ)) → IsAlias tree text path → claims_alias tree path text ≡ true
  alias_claims text path a =
      ap (λ q. claims_alias tree q text) a.path_is ∙ ap (claims_alias tree (kid a.parent a.name)) a.text_is ∙ claims_is a.parent a.name a.alias a.segment
      ∙ find_passes (λ sibling. has_alias tree (kid a.parent sibling) a.alias) (kids_at tree a.parent) a.name a.first
