-- The one answer of patterns is that of the relation.
use Rattle.std.proofs.Common.{◌≡◌, ◌≤◌, ◌<◌, ◌⊎◌, ℕ, zero, suc, true, false, cond, List, [], ◌∷◌, ◌++◌, Option, Some, None, take, drop, length, refl, sym, ◌∙◌, ap, subst, arith, ⊎_elim}
use Rattle.std.specs.Prelude.{◌≢◌, is_some, nat_eq, option_and_then, option_map}
use Rattle.std.specs.Cmp.Lexicographic.{pointwise}
use Rattle.std.specs.Option.{option_map_or}
use Rattle.std.specs.Str.{chars}
use Rattle.std.proofs.lemmas.Bool.{cases_Bool, true≢false, false≢true, and_parts, and_from, cases_eq}
use Rattle.std.proofs.lemmas.List.{length-take-le}
use Rattle.sp_base.proofs.TextLemmas.{text_is, text_itself}
use Rattle.regex_rules.specs.Trees.{PatternTree}
use Rattle.regex_rules.specs.Deciding.{pattern_tree}
use Rattle.regex_rules.specs.Languages.{in_language}
use Rattle.regex_rules.specs.Fronts.{may_cut}
use Rattle.regex_rules.proofs.CuttingLemmas.{tells_language}
use Rattle.regex_rules.proofs.DecidingLemmas.{tree_spelled}
use Rattle.resource_tree.specs.declared.nodes.Node.{Node}
use Rattle.resource_tree.specs.Content.{Content, IsTree, kid, name_of, node_at}
use Rattle.resource_tree.specs.Changes.{kids_at}
use Rattle.url_maps.specs.declared.pairs.PairKind.TheVariants.{Pattern}
use Rattle.url_maps.specs.Mappings.{mapping_of}
use Rattle.url_maps.specs.Patterns.{Asked, GivesPair, HasPattern, IsFrontOf, IsLongestFront, mappings_path, match_text}
use Rattle.url_maps.specs.PatternAnswers.{given_at, given_by, givers, has_front, is_front, last_front, least, longest_front, node_pattern, pattern_pair, pattern_with}
use Rattle.url_maps.specs.Pairs.{IsPairOf}
use Rattle.url_maps.specs.Search.{IsOf}
use Rattle.url_maps.proofs.NameLemmas.{is_named, keeps_name, kept_name, least_is, least_none}

-- ---- the longest front

front_is : (pattern : PatternTree) (asked : Asked) (at : ℕ) → at ≤ length asked.text → is_front pattern asked at ≡ true → IsFrontOf pattern asked at
front_is pattern asked at within is =
    let parts = and_parts (may_cut (drop at asked.text)) (in_language pattern (chars (name_of asked.host_node ++ take at asked.text))) is in
    record { within = within; cut = parts.0; matches = (tells_language pattern (chars (name_of asked.host_node ++ take at asked.text))).0 parts.1 }

front_only : (pattern : PatternTree) (asked : Asked) (at : ℕ) → IsFrontOf pattern asked at → is_front pattern asked at ≡ true
front_only pattern asked at front =
    and_from (may_cut (drop at asked.text)) (in_language pattern (chars (name_of asked.host_node ++ take at asked.text))) front.cut ((tells_language pattern (chars (name_of asked.host_node ++ take at asked.text))).1 front.matches)

-- the last front before a place, or that there is none
abbrev IsLast : PatternTree → Asked → ℕ → Option ℕ → Type 0
IsLast pattern asked n (Some at) = IsFrontOf pattern asked at × ((k : ℕ) → k < n → IsFrontOf pattern asked k → k ≤ at)
IsLast pattern asked n None = (k : ℕ) → k < n → IsFrontOf pattern asked k → ⊥

one_more : (pattern : PatternTree) (asked : Asked) (n : ℕ) (o : Option ℕ) → (IsFrontOf pattern asked n → ⊥) → IsLast pattern asked n o → IsLast pattern asked (suc n) o
one_more pattern asked n None lacks last = λ k lt front. ⊎_elim
    (λ (same : k ≡ n). lacks (subst (λ i. IsFrontOf pattern asked i) same front))
    (λ (other : k ≢ n). last k (omega (arith, lt, other)) front)
    (cases_eq k n)
one_more pattern asked n (Some at) lacks last = (
  last.0,
  λ k lt front. ⊎_elim
      (λ (same : k ≡ n). absurd (lacks (subst (λ i. IsFrontOf pattern asked i) same front)))
      (λ (other : k ≢ n). last.1 k (omega (arith, lt, other)) front)
      (cases_eq k n),
)

last_told : (pattern : PatternTree) (asked : Asked) (n : ℕ) → n ≤ suc (length asked.text) → IsLast pattern asked n (last_front pattern asked n)
last_told pattern asked zero within = λ k lt front. omega (arith, lt)
last_told pattern asked (suc n) within = ⊎_elim
    (λ (fits : is_front pattern asked n ≡ true).
    subst (λ b. IsLast pattern asked (suc n) (cond b (Some n) (last_front pattern asked n))) (sym fits)
    (front_is pattern asked n (omega (arith, within)) fits, λ k lt front. omega (arith, lt)))
    (λ (fails : is_front pattern asked n ≡ false).
    subst (λ b. IsLast pattern asked (suc n) (cond b (Some n) (last_front pattern asked n))) (sym fails)
    (one_more pattern asked n (last_front pattern asked n) (λ front. true≢false (sym (front_only pattern asked n front) ∙ fails)) (last_told pattern asked n (omega (arith, within)))))
    (cases_Bool (is_front pattern asked n))

longest_told : (asked : Asked) (pattern : PatternTree) → IsLast pattern asked (suc (length asked.text)) (longest_front asked pattern)
longest_told asked pattern = last_told pattern asked (suc (length asked.text)) (omega arith)

-- ---- the pair of a node

pattern_had : (node : Node) (pattern : PatternTree) → node_pattern node ≡ Some pattern → HasPattern node pattern
pattern_had node pattern e =
    elim (match_text node) as (λ o. match_text node ≡ o → option_and_then (λ text. pattern_tree (chars text)) o ≡ Some pattern → HasPattern node pattern) [
      | None ↦ λ is none. cc
      | Some text ↦ λ is some. record { text = text; is = is; reads = (tree_spelled (chars text) pattern).1 some }
    ] refl e

pattern_has : (node : Node) (pattern : PatternTree) → HasPattern node pattern → node_pattern node ≡ Some pattern
pattern_has node pattern has = ap (option_and_then (λ text. pattern_tree (chars text))) has.is ∙ (tree_spelled (chars has.text) pattern).0 has.reads

front_taken : (asked : Asked) (prefix : List ℕ) (pattern : PatternTree) (at : ℕ) → IsLast pattern asked (suc (length asked.text)) (Some at) → pointwise nat_eq prefix (take at asked.text) ≡ true → IsLongestFront pattern asked prefix
front_taken asked prefix pattern at last same =
    let is : prefix ≡ take at asked.text = text_is prefix (take at asked.text) same in
    let within : at ≤ length asked.text = last.0.within in
    let size : length prefix ≡ at = ap length is ∙ length-take-le at asked.text within in
    record {
      is = is ∙ ap (λ n. take n asked.text) (sym size);
      front = subst (λ n. IsFrontOf pattern asked n) (sym size) last.0;
      longest = λ k front. subst (λ n. k ≤ n) (sym size) (last.1 k (let le = front.within in omega (arith, le)) front);
    }

front_had : (asked : Asked) (prefix : List ℕ) (pattern : PatternTree) → option_map_or (λ at. pointwise nat_eq prefix (take at asked.text)) (longest_front asked pattern) false ≡ true → IsLongestFront pattern asked prefix
front_had asked prefix pattern e =
    elim (longest_front asked pattern) as (λ o. IsLast pattern asked (suc (length asked.text)) o → option_map_or (λ at. pointwise nat_eq prefix (take at asked.text)) o false ≡ true → IsLongestFront pattern asked prefix) [
      | None ↦ λ last none. absurd (false≢true none)
      | Some at ↦ λ last same. front_taken asked prefix pattern at last same
    ] (longest_told asked pattern) e

front_has : (asked : Asked) (prefix : List ℕ) (pattern : PatternTree) → IsLongestFront pattern asked prefix → longest_front asked pattern ≡ Some (length prefix)
front_has asked prefix pattern front =
    elim (longest_front asked pattern) as (λ o. IsLast pattern asked (suc (length asked.text)) o → o ≡ Some (length prefix)) [
      | None ↦ λ last. absurd (last (length prefix) (let le = front.front.within in omega (arith, le)) front.front)
      | Some at ↦ λ last.
          let above : length prefix ≤ at = last.1 (length prefix) (let le = front.front.within in omega (arith, le)) front.front in
          let below : at ≤ length prefix = front.longest at last.0 in
          let same : at ≡ length prefix = omega (arith, above, below) in
          ap (λ n. Some n) same
    ] (longest_told asked pattern)

module _ (tree : Content) (asked : Asked) (name prefix : List ℕ) (to : List ℕ × Option ℕ) where
  node_gives : (node : Node) → node_at tree (kid mappings_path name) ≡ Some node → mapping_of node ≡ Some to → has_front asked prefix node ≡ true → GivesPair tree asked name prefix to
  node_gives node there leads front =
      elim (node_pattern node) as (λ o. node_pattern node ≡ o → option_map_or (λ at. pointwise nat_eq prefix (take at asked.text)) (option_and_then (longest_front asked) o) false ≡ true → GivesPair tree asked name prefix to) [
        | None ↦ λ is none. absurd (false≢true none)
        | Some pattern ↦ λ is some. record { node = node; there = there; pattern = pattern; has = pattern_had node pattern is; front = front_had asked prefix pattern some; leads = leads }
      ] refl front

  pub given_is : given_at tree asked prefix name ≡ Some to → GivesPair tree asked name prefix to
  given_is e =
      elim (node_at tree (kid mappings_path name)) as (λ o. node_at tree (kid mappings_path name) ≡ o → option_and_then (given_by asked prefix) o ≡ Some to → GivesPair tree asked name prefix to) [
        | None ↦ λ is none. cc
        | Some node ↦ λ is some. ⊎_elim
            (λ (fits : has_front asked prefix node ≡ true). node_gives node is (sym (ap (λ b. cond b (mapping_of node) None) fits) ∙ some) fits)
            (λ (fails : has_front asked prefix node ≡ false). let none : None ≡ Some to = sym (ap (λ b. cond b (mapping_of node) None) fails) ∙ some in cc)
            (cases_Bool (has_front asked prefix node))
      ] refl e

  pub given_only : GivesPair tree asked name prefix to → given_at tree asked prefix name ≡ Some to
  given_only g =
      let fronts : option_and_then (longest_front asked) (node_pattern g.node) ≡ Some (length prefix) = ap (option_and_then (longest_front asked)) (pattern_has g.node g.pattern g.has) ∙ front_has asked prefix g.pattern g.front in
      let fits : has_front asked prefix g.node ≡ true =
      ap (λ o. option_map_or (λ at. pointwise nat_eq prefix (take at asked.text)) o false) fronts ∙ ap (pointwise nat_eq prefix) (sym g.front.is) ∙ text_itself prefix in
      ap (option_and_then (given_by asked prefix)) g.there ∙ ap (λ b. cond b (mapping_of g.node) None) fits ∙ g.leads

-- ---- of several the one with the least name

module _ (tree : Content) (good : IsTree (node_at tree)) where
  -- a node that is there is among its parent's kids
  pub kid_listed : (parent : List (List ℕ)) (name : List ℕ) (node : Node) → node_at tree (kid parent name) ≡ Some node → is_named name (kids_at tree parent) ≡ true
  kid_listed parent name node there =
      elim (node_at tree parent) as (λ o. node_at tree parent ≡ o → is_some o ≡ true → is_named name (option_map_or (λ n. n.kids) o []) ≡ true) [
        | None ↦ λ is none. absurd (false≢true none)
        | Some above ↦ λ is some. (good.nodes parent above is).kids name ∙ ap is_some there
      ] refl (good.parents parent name (ap is_some there))

  giver_listed : (asked : Asked) (name prefix : List ℕ) (to : List ℕ × Option ℕ) → GivesPair tree asked name prefix to → is_named name (givers tree asked prefix) ≡ true
  giver_listed asked name prefix to g =
      keeps_name (λ n. is_some (given_at tree asked prefix n)) name (kids_at tree mappings_path) (ap is_some (given_only tree asked name prefix to g)) (kid_listed mappings_path name g.node g.there)

  least_gives : (asked : Asked) (prefix name : List ℕ) → least (givers tree asked prefix) ≡ Some name → IsOf Pattern tree (Some asked) prefix (option_map pattern_pair (given_at tree asked prefix name))
  least_gives asked prefix name is =
      let first = least_is (givers tree asked prefix) name is in
      elim (given_at tree asked prefix name) as (λ o. given_at tree asked prefix name ≡ o → is_some o ≡ true → IsOf Pattern tree (Some asked) prefix (option_map pattern_pair o)) [
        | None ↦ λ none fails. absurd (false≢true fails)
        | Some to ↦ λ gives some. (
          refl,
          record { name = name; gives = given_is tree asked name prefix to gives; least = λ other also g. first.first other (giver_listed asked other prefix also g) },
        )
      ] refl (kept_name (λ n. is_some (given_at tree asked prefix n)) name (kids_at tree mappings_path) first.among)

  pub pattern_is : (asked : Option Asked) (prefix : List ℕ) → IsOf Pattern tree asked prefix (pattern_with tree asked prefix)
  pattern_is None prefix = λ pair is has. subst (λ kind. IsPairOf kind tree None prefix pair) is has
  pattern_is (Some asked) prefix =
      elim (least (givers tree asked prefix)) as (λ o. least (givers tree asked prefix) ≡ o → IsOf Pattern tree (Some asked) prefix (option_map pattern_pair (option_and_then (given_at tree asked prefix) o))) [
        | None ↦ λ lacks pair is has.
            let p = subst (λ kind. IsPairOf kind tree (Some asked) prefix pair) is has in
            false≢true (sym (ap (is_named p.name) (least_none (givers tree asked prefix) lacks)) ∙ giver_listed asked p.name prefix (pair.target, pair.away) p.gives)
        | Some name ↦ λ is. least_gives asked prefix name is
      ] refl
