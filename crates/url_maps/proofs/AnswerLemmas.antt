-- The one answer is that of the relation.
use Rattle.std.proofs.Common.{◌≡◌, ◌≤◌, ◌<◌, ◌+◌, ◌-◌, ℕ, zero, suc, Bool, true, false, cond, List, [], ◌∷◌, Option, Some, None, Ok, Err, take, drop, length, refl, sym, ◌∙◌, ap, subst, arith, ⊎_elim, ◌⊎◌, inl, inr}
use Rattle.std.specs.Prelude.{◌||◌, ◌≢◌, IsTrue, codes, filter, find, is_none, is_some, nat_eq, not, option_and_then, option_map}
use Rattle.std.specs.List.{list_all, list_any, range_with_len}
use Rattle.std.specs.Map.{keys_of, lookup}
use Rattle.std.specs.Cmp.Lexicographic.{pointwise}
use Rattle.std.specs.Option.{option_map_or, option_or}
use Rattle.std.specs.Ordering.{is_lt}
use Rattle.std.specs.declared.cmp.Ordering.TheVariants.{Less}
use Rattle.std.proofs.lemmas.Bool.{cases_Bool, true≢false, false≢true, and_parts, and_from, cases_lt, cases_eq, not-true}
use Rattle.std.proofs.lemmas.Option.{same_Some}
use Rattle.sp_base.specs.Paths.{is_path, parent_of, path_of, text_of}
use Rattle.resource_tree.specs.declared.nodes.Node.{Node}
use Rattle.resource_tree.specs.Content.{Content, IsTree, kid, name_of, node_at, prop_at, same_path}
use Rattle.resource_tree.specs.Changes.{kids_at}
use Rattle.resource_tree.proofs.PathLemmas.{kid_name, kid_parent, path_from_same, same_path_self}
use Rattle.resource_tree.proofs.SamePaths.{kid_of_parent}
use Rattle.url_maps.specs.declared.answer.MapAnswer.{MapAnswer}
use Rattle.url_maps.specs.declared.pairs.Pair.{Pair}
use Rattle.url_maps.specs.declared.pairs.PairKind.TheVariants.{Mapping, Pattern, Alias, VanityPath}
use Rattle.url_maps.specs.Aliases.{IsAlias, has_alias}
use Rattle.url_maps.specs.Answers.{alias_at, alias_with, answer_of, deciding_pair, earlier, earliest, is_without_pattern, map_answer, mapping_at, mapping_with, outcome, pair_at, pair_inside, pair_to, pair_with, sibling_with_alias, turn, vanity_at, vanity_nodes, vanity_with}
use Rattle.url_maps.specs.Mappings.{IsPlain, has_match, mapping_of}
use Rattle.url_maps.specs.Patterns.{Asked, asked_for, node_of_host}
use Rattle.url_maps.specs.PatternAnswers.{pattern_with}
use Rattle.url_maps.specs.Pairs.{Applies, Decides, HasNoPair, IsPair, IsPairOf, goes_on_after_prefix}
use Rattle.url_maps.specs.Search.{IsBest, IsFirstPath, IsMappingOf, IsMappingPair, IsOf, mapped_path}
use Rattle.url_maps.specs.Turns.{IsMapped, Turns, leads, most_turns, text_after}
use Rattle.url_maps.specs.VanityPaths.{has_vanity_path, vanity_page, vanity_cmp, with_slash}
use Rattle.sp_base.specs.Properties.{value_texts}
use Rattle.sp_base.proofs.BoolLemmas.{or_true}
use Rattle.sp_base.proofs.OrderingLemmas.{less_from_test}
use Rattle.regex_rules.specs.Fronts.{may_cut}
use Rattle.url_maps.proofs.LawLemmas.{alias_path}
use Rattle.url_maps.proofs.MappingLemmas.{IsSpelled, no_node_pair, no_path_pair, no_plain_pair, pair_at_node}
use Rattle.url_maps.proofs.PairLemmas.{best_alias, best_last, best_mapping, best_pattern, goes_on_cut, mapping_pair, none_best, none_of}
use Rattle.url_maps.proofs.PatternLemmas.{pattern_is}
use Rattle.url_maps.proofs.PathLemmas.{IsReadBack, valid_name}
use Rattle.url_maps.proofs.VanityLemmas.{after_first, vanity_total}

-- ---- patterns

plain_from : (tree : Content) (path : List (List ℕ)) (n d : ℕ) → list_all (λ depth. not (has_match tree (take depth path))) (range_with_len d n) ≡ true
    → (k : ℕ) → d ≤ k → k < d + n → has_match tree (take k path) ≡ false
plain_from tree path zero d all k low high = absurd (omega (arith, low, high))
plain_from tree path (suc n) d all k low high =
    let parts = and_parts (not (has_match tree (take d path))) (list_all (λ depth. not (has_match tree (take depth path))) (range_with_len (d + 1) n)) all in
    ⊎_elim
    (λ (same : k ≡ d). ap (λ i. has_match tree (take i path)) same ∙ not-true (has_match tree (take d path)) parts.0)
    (λ (other : k ≢ d). plain_from tree path n (d + 1) parts.1 k (omega (arith, low, other)) (omega (arith, high)))
    (cases_eq k d)

plain_back : (tree : Content) (path : List (List ℕ)) (n d : ℕ) → ((k : ℕ) → d ≤ k → k < d + n → has_match tree (take k path) ≡ false)
    → list_all (λ depth. not (has_match tree (take depth path))) (range_with_len d n) ≡ true
plain_back tree path zero d none = refl
plain_back tree path (suc n) d none =
    and_from (not (has_match tree (take d path))) (list_all (λ depth. not (has_match tree (take depth path))) (range_with_len (d + 1) n))
    (ap not (none d (omega arith) (omega arith)))
    (plain_back tree path n (d + 1) (λ k low high. none k (omega (arith, low)) (omega (arith, high))))

plain_is : (tree : Content) (host_node path : List (List ℕ)) → is_without_pattern tree host_node path ≡ true → IsPlain tree host_node path
plain_is tree host_node path all k low high = plain_from tree path (length path + 1 - length host_node) (length host_node) all k low (omega (arith, low, high))

plain_only : (tree : Content) (host_node path : List (List ℕ)) → IsPlain tree host_node path → is_without_pattern tree host_node path ≡ true
plain_only tree host_node path plain = plain_back tree path (length path + 1 - length host_node) (length host_node) (λ k low high. plain k low (omega (arith, low, high)))

-- ---- lists of paths

key_listed : (entries : Content) (q : List (List ℕ)) → is_some (lookup (same_path q) entries) ≡ true → list_any (same_path q) (keys_of entries) ≡ true
key_listed [] q there = absurd (false≢true there)
key_listed (e ∷ entries) q there =
    ⊎_elim
    (λ (here : same_path q e.0 ≡ true). ap (λ b. b || list_any (same_path q) (keys_of entries)) here)
    (λ (not_here : same_path q e.0 ≡ false).
    ap (λ b. b || list_any (same_path q) (keys_of entries)) not_here
    ∙ key_listed entries q (sym (ap (λ b. is_some (cond b (Some e.1) (lookup (same_path q) entries))) not_here) ∙ there))
    (cases_Bool (same_path q e.0))

filter_keeps : (f : List (List ℕ) → Bool) (q : List (List ℕ)) (xs : List (List (List ℕ))) → f q ≡ true → list_any (same_path q) xs ≡ true → list_any (same_path q) (filter f xs) ≡ true
filter_keeps f q [] passes_it any = any
filter_keeps f q (x ∷ xs) passes_it any =
    ⊎_elim
    (λ (here : same_path q x ≡ true).
    let kept : f x ≡ true = ap f (sym (path_from_same q x here)) ∙ passes_it in
    ap (λ b. list_any (same_path q) (cond b (x ∷ filter f xs) (filter f xs))) kept ∙ ap (λ b. b || list_any (same_path q) (filter f xs)) here)
    (λ (not_here : same_path q x ≡ false).
    let rest = filter_keeps f q xs passes_it (sym (ap (λ b. b || list_any (same_path q) xs) not_here) ∙ any) in
    ⊎_elim
    (λ (kept : f x ≡ true). ap (λ b. list_any (same_path q) (cond b (x ∷ filter f xs) (filter f xs))) kept ∙ ap (λ b. b || list_any (same_path q) (filter f xs)) not_here ∙ rest)
    (λ (dropped : f x ≡ false). ap (λ b. list_any (same_path q) (cond b (x ∷ filter f xs) (filter f xs))) dropped ∙ rest)
    (cases_Bool (f x)))
    (cases_Bool (same_path q x))

filter_passes : (f : List (List ℕ) → Bool) (q : List (List ℕ)) (xs : List (List (List ℕ))) → list_any (same_path q) (filter f xs) ≡ true → f q ≡ true
filter_passes f q [] any = absurd (false≢true any)
filter_passes f q (x ∷ xs) any =
    ⊎_elim
    (λ (kept : f x ≡ true). ⊎_elim
    (λ (here : same_path q x ≡ true). ap f (path_from_same q x here) ∙ kept)
    (λ (not_here : same_path q x ≡ false).
    filter_passes f q xs (sym (ap (λ b. list_any (same_path q) (cond b (x ∷ filter f xs) (filter f xs))) kept ∙ ap (λ b. b || list_any (same_path q) (filter f xs)) not_here) ∙ any))
    (cases_Bool (same_path q x)))
    (λ (dropped : f x ≡ false). filter_passes f q xs (sym (ap (λ b. list_any (same_path q) (cond b (x ∷ filter f xs) (filter f xs))) dropped) ∙ any))
    (cases_Bool (f x))

-- ---- the earliest of some nodes

earliest_none : (tree : Content) (paths : List (List (List ℕ))) → earliest tree paths ≡ None → paths ≡ []
earliest_none tree [] none = refl
earliest_none tree (q ∷ paths) none = cc

abbrev AreValid : List (List (List ℕ)) → Type 0
AreValid paths = (q : List (List ℕ)) → list_any (same_path q) paths ≡ true → is_path q ≡ true

rest_valid : (q : List (List ℕ)) (paths : List (List (List ℕ))) → AreValid (q ∷ paths) → AreValid paths
rest_valid q paths valid other among = valid other (ap (λ b. same_path other q || b) among ∙ or_true (same_path other q))

head_among : (q : List (List ℕ)) (paths : List (List (List ℕ))) → list_any (same_path q) (q ∷ paths) ≡ true
head_among q paths = ap (λ b. b || list_any (same_path q) paths) (same_path_self q)

pub earliest_is : IsReadBack → (tree : Content) (paths : List (List (List ℕ))) (path : List (List ℕ)) → AreValid paths → earliest tree paths ≡ Some path → IsFirstPath tree paths path
earliest_is read tree [] path valid is = cc
earliest_is read tree (q ∷ paths) path valid is =
    elim (earliest tree paths) as (λ o. earliest tree paths ≡ o → Some (earlier tree q o) ≡ Some path → IsFirstPath tree (q ∷ paths) path) [
      | None ↦ λ none one.
          let same : q ≡ path = same_Some q path one in
          let alone : paths ≡ [] = earliest_none tree paths none in
          subst (λ (p : List (List ℕ)). IsFirstPath tree (q ∷ paths) p) same (record {
            among = head_among q paths;
            first = λ other among. ⊎_elim
                (λ (here : same_path other q ≡ true). inl (path_from_same other q here))
                (λ (not_here : same_path other q ≡ false). absurd (false≢true (sym (ap (λ b. b || list_any (same_path other) paths) not_here ∙ ap (list_any (same_path other)) alone) ∙ among)))
                (cases_Bool (same_path other q));
          })
      | Some next ↦ λ some one.
          let before = earliest_is read tree paths next (rest_valid q paths valid) some in
          let next_among : list_any (same_path next) (q ∷ paths) ≡ true = ap (λ b. same_path next q || b) before.among ∙ or_true (same_path next q) in
          ⊎_elim
          (λ (less : is_lt (vanity_cmp tree q next) ≡ true).
          let same : q ≡ path = same_Some q path (sym (ap (λ b. Some (cond b q next)) less) ∙ one) in
          let is_less = less_from_test (vanity_cmp tree q next) less in
          subst (λ (p : List (List ℕ)). IsFirstPath tree (q ∷ paths) p) same (record {
            among = head_among q paths;
            first = λ other among. ⊎_elim
                (λ (here : same_path other q ≡ true). inl (path_from_same other q here))
                (λ (not_here : same_path other q ≡ false). ⊎_elim
                (λ (is_next : other ≡ next). inr (ap (vanity_cmp tree q) is_next ∙ is_less))
                (λ (after : vanity_cmp tree next other ≡ Less). inr ((vanity_total tree).trans q next other is_less after))
                (before.first other (sym (ap (λ b. b || list_any (same_path other) paths) not_here) ∙ among)))
                (cases_Bool (same_path other q));
          }))
          (λ (not_less : is_lt (vanity_cmp tree q next) ≡ false).
          let same : next ≡ path = same_Some next path (sym (ap (λ b. Some (cond b q next)) not_less) ∙ one) in
          subst (λ (p : List (List ℕ)). IsFirstPath tree (q ∷ paths) p) same (record {
            among = next_among;
            first = λ other among. ⊎_elim
                (λ (here : same_path other q ≡ true).
                subst (λ (p : List (List ℕ)). (p ≡ next) ⊎ (vanity_cmp tree next p ≡ Less)) (sym (path_from_same other q here))
                (after_first read tree next q (valid next next_among) (valid q (head_among q paths)) not_less))
                (λ (not_here : same_path other q ≡ false). before.first other (sym (ap (λ b. b || list_any (same_path other) paths) not_here) ∙ among))
                (cases_Bool (same_path other q));
          }))
          (cases_Bool (is_lt (vanity_cmp tree q next)))
    ] refl is

-- ---- the pair of each kind

is_mapping_pair : (node : Node) (m : Option (List ℕ × Option ℕ)) → mapping_of node ≡ m → IsMappingPair node (option_map pair_to m)
is_mapping_pair node None is = is
is_mapping_pair node (Some (target, away)) is = (refl, is)

none_is : (o : Option Node) → is_none o ≡ true → o ≡ None
none_is None is = refl
none_is (Some node) is = absurd (false≢true is)

has_node : (tree : Content) (path : List (List ℕ)) (text : List ℕ) → has_vanity_path tree path text ≡ true → is_some (node_at tree path) ≡ true
unfolding has_vanity_path
has_node tree path text has =
    elim (node_at tree path) as (λ o. node_at tree path ≡ o → is_some o ≡ true) [
      | None ↦ λ is. absurd (false≢true (sym (ap (λ o. option_map_or (λ (node : Node). list_any (λ word. pointwise nat_eq text (with_slash word)) (value_texts (prop_at node (codes "sling:vanityPath")))) o false) is) ∙ has))
      | Some node ↦ λ is. refl
    ] refl

module _ (read : IsReadBack) (spelled : IsSpelled) (valid : (text : List ℕ) (path : List (List ℕ)) → path_of text ≡ Ok path → IsTrue (is_path path)) (tree : Content) (good : IsTree (node_at tree)) where
  mapping_there : (host_node : List (List ℕ)) (prefix : List ℕ) (path : List (List ℕ)) → mapped_path host_node prefix ≡ Some path → is_without_pattern tree host_node path ≡ true
      → IsMappingOf tree (Some host_node) prefix (option_map pair_to (option_and_then mapping_of (node_at tree path)))
  mapping_there host_node prefix path at plain =
      elim (node_at tree path) as (λ o. node_at tree path ≡ o → IsMappingOf tree (Some host_node) prefix (option_map pair_to (option_and_then mapping_of o))) [
        | None ↦ λ none. no_node_pair read tree good host_node prefix path at none
        | Some node ↦ λ there. pair_at_node read spelled tree good host_node prefix path node (option_map pair_to (mapping_of node)) at there (plain_is tree host_node path plain) (is_mapping_pair node (mapping_of node) refl)
      ] refl

  mapping_at_is : (host_node : List (List ℕ)) (prefix : List ℕ) (path : List (List ℕ)) → mapped_path host_node prefix ≡ Some path → IsMappingOf tree (Some host_node) prefix (mapping_at tree host_node path)
  mapping_at_is host_node prefix path at =
      let leads_to = option_map pair_to (option_and_then mapping_of (node_at tree path)) in
      ⊎_elim
      (λ (plain : is_without_pattern tree host_node path ≡ true). subst (λ b. IsMappingOf tree (Some host_node) prefix (cond b leads_to None)) (sym plain) (mapping_there host_node prefix path at plain))
      (λ (fails : is_without_pattern tree host_node path ≡ false).
      subst (λ b. IsMappingOf tree (Some host_node) prefix (cond b leads_to None)) (sym fails)
      (no_plain_pair read tree good host_node prefix path at (λ plain. true≢false (sym (plain_only tree host_node path plain) ∙ fails))))
      (cases_Bool (is_without_pattern tree host_node path))

  mapping_is : (host_node : Option (List (List ℕ))) (prefix : List ℕ) → IsMappingOf tree host_node prefix (mapping_with tree host_node prefix)
  mapping_is None prefix = λ pair has. has
  mapping_is (Some host_node) prefix =
      elim (mapped_path host_node prefix) as (λ o. mapped_path host_node prefix ≡ o → IsMappingOf tree (Some host_node) prefix (option_and_then (mapping_at tree host_node) o)) [
        | None ↦ λ none. no_path_pair read tree good host_node prefix none
        | Some path ↦ λ at. mapping_at_is host_node prefix path at
      ] refl

  -- the path that the text of an alias spells
  alias_read : (text : List ℕ) (path : List (List ℕ)) (a : IsAlias tree text path) → path_of text ≡ Ok (kid a.parent a.alias)
  alias_read text path a = ap path_of a.text_is ∙ read (kid a.parent a.alias) (alias_path read tree good text path a)

  pub below_root : (path : List (List ℕ)) → node_at tree path ≡ None → 0 < length path
  below_root [] none = absurd (true≢false (sym good.root ∙ ap is_some none))
  below_root (s ∷ path) none = omega arith

  free_alias_is : (prefix : List ℕ) (path : List (List ℕ)) → path_of prefix ≡ Ok path → node_at tree path ≡ None → IsOf Alias tree None prefix (option_map (pair_inside Alias) (sibling_with_alias tree path))
  free_alias_is prefix path at none =
      let parent = parent_of path in
      let below = below_root path none in
      let whole = kid_of_parent path below in
      let test : List ℕ → Bool = λ sibling. has_alias tree (kid parent sibling) (name_of path) in
      elim (find test (kids_at tree parent)) as (λ o. find test (kids_at tree parent) ≡ o → IsOf Alias tree None prefix (option_map (pair_inside Alias) (option_map (kid parent) o))) [
        | None ↦ λ lacks pair is has.
            let a = subst (λ kind. IsPairOf kind tree None prefix pair) is has in
            let same_read : Ok path ≡ Ok (kid a.alias.parent a.alias.alias) = sym at ∙ alias_read prefix a.path a.alias in
            let one : kid parent (name_of path) ≡ kid a.alias.parent a.alias.alias = whole ∙ (let same : path ≡ kid a.alias.parent a.alias.alias = cc in same) in
            let parents = kid_parent parent a.alias.parent (name_of path) a.alias.alias one in
            let names = kid_name parent a.alias.parent (name_of path) a.alias.alias one in
            let found : find test (kids_at tree parent) ≡ Some a.alias.name =
            ap (λ p. find (λ sibling. has_alias tree (kid p sibling) (name_of path)) (kids_at tree p)) parents
            ∙ ap (λ n. find (λ sibling. has_alias tree (kid a.alias.parent sibling) n) (kids_at tree a.alias.parent)) names ∙ a.alias.first in
            cc
        | Some name ↦ λ first. (
          refl,
          record {
            path = kid parent name;
            alias = record {
              parent = parent;
              name = name;
              alias = name_of path;
              path_is = refl;
              text_is = sym (spelled prefix path at) ∙ ap text_of (sym whole);
              segment = valid_name parent (name_of path) (ap is_path whole ∙ valid prefix path at);
              free = ap (node_at tree) whole ∙ none;
              first = first;
            };
            target = refl;
            inside = refl;
          },
        )
      ] refl

  pub alias_is : (prefix : List ℕ) → IsOf Alias tree None prefix (alias_with tree prefix)
  alias_is prefix =
      elim (path_of prefix) as (λ r. path_of prefix ≡ r → IsOf Alias tree None prefix (alias_at tree r)) [
        | Err e ↦ λ bad pair is has. let a = subst (λ kind. IsPairOf kind tree None prefix pair) is has in let same = alias_read prefix a.path a.alias in cc
        | Ok path ↦ λ at.
            let there = option_map (pair_inside Alias) (sibling_with_alias tree path) in
            ⊎_elim
            (λ (free : is_none (node_at tree path) ≡ true).
            subst (λ b. IsOf Alias tree None prefix (cond b there None)) (sym free) (free_alias_is prefix path at (none_is (node_at tree path) free)))
            (λ (taken : is_none (node_at tree path) ≡ false).
            subst (λ b. IsOf Alias tree None prefix (cond b there None)) (sym taken)
            (λ pair is has.
            let a = subst (λ kind. IsPairOf kind tree None prefix pair) is has in
            let same_read : Ok path ≡ Ok (kid a.alias.parent a.alias.alias) = sym at ∙ alias_read prefix a.path a.alias in
            let same : path ≡ kid a.alias.parent a.alias.alias = cc in
            true≢false (sym (ap is_none (ap (node_at tree) same ∙ a.alias.free)) ∙ taken)))
            (cases_Bool (is_none (node_at tree path)))
      ] refl

  vanity_valid_nodes : (text : List ℕ) → AreValid (vanity_nodes tree text)
  vanity_valid_nodes text q among =
      let there = has_node tree q text (filter_passes (λ path. has_vanity_path tree path text) q (keys_of tree) among) in
      elim (node_at tree q) as (λ o. node_at tree q ≡ o → is_some o ≡ true → is_path q ≡ true) [
        | None ↦ λ none fails. absurd (false≢true fails)
        | Some node ↦ λ is some. (good.nodes q node is).is_a_path
      ] refl there

  vanity_listed : (text : List ℕ) (q : List (List ℕ)) → has_vanity_path tree q text ≡ true → list_any (same_path q) (vanity_nodes tree text) ≡ true
  vanity_listed text q has = filter_keeps (λ path. has_vanity_path tree path text) q (keys_of tree) has (key_listed tree q (has_node tree q text has))

  free_vanity_is : (prefix : List ℕ) (at : List (List ℕ)) → path_of prefix ≡ Ok at → node_at tree at ≡ None
      → IsOf VanityPath tree None prefix (option_map (λ path. pair_inside VanityPath (vanity_page path)) (earliest tree (vanity_nodes tree prefix)))
  free_vanity_is prefix at reads none =
      elim (earliest tree (vanity_nodes tree prefix)) as (λ o. earliest tree (vanity_nodes tree prefix) ≡ o → IsOf VanityPath tree None prefix (option_map (λ path. pair_inside VanityPath (vanity_page path)) o)) [
        | None ↦ λ lacks pair is has.
            let v = subst (λ kind. IsPairOf kind tree None prefix pair) is has in
            false≢true (sym (ap (list_any (same_path v.path)) (earliest_none tree (vanity_nodes tree prefix) lacks)) ∙ vanity_listed prefix v.path v.vanity_path.has)
        | Some path ↦ λ is.
            let first = earliest_is read tree (vanity_nodes tree prefix) path (vanity_valid_nodes prefix) is in (
              refl,
              record {
                path = path;
                vanity_path = record {
                  at = at;
                  reads = reads;
                  free = none;
                  has = filter_passes (λ q. has_vanity_path tree q prefix) path (keys_of tree) first.among;
                  first = λ other has. first.first other (vanity_listed prefix other has);
                };
                target = refl;
                inside = refl;
              },
            )
      ] refl

  vanity_is : (prefix : List ℕ) → IsOf VanityPath tree None prefix (vanity_with tree prefix)
  vanity_is prefix =
      elim (path_of prefix) as (λ r. path_of prefix ≡ r → IsOf VanityPath tree None prefix (vanity_at tree prefix r)) [
        | Err e ↦ λ bad pair is has. let v = subst (λ kind. IsPairOf kind tree None prefix pair) is has in let same = v.vanity_path.reads in cc
        | Ok at ↦ λ reads.
            let there = option_map (λ path. pair_inside VanityPath (vanity_page path)) (earliest tree (vanity_nodes tree prefix)) in
            ⊎_elim
            (λ (free : is_none (node_at tree at) ≡ true).
            subst (λ b. IsOf VanityPath tree None prefix (cond b there None)) (sym free) (free_vanity_is prefix at reads (none_is (node_at tree at) free)))
            (λ (taken : is_none (node_at tree at) ≡ false).
            subst (λ b. IsOf VanityPath tree None prefix (cond b there None)) (sym taken)
            (λ pair is has.
            let v = subst (λ kind. IsPairOf kind tree None prefix pair) is has in
            let same_read : Ok at ≡ Ok v.vanity_path.at = sym reads ∙ v.vanity_path.reads in
            let same : at ≡ v.vanity_path.at = cc in
            true≢false (sym (ap is_none (ap (node_at tree) same ∙ v.vanity_path.free)) ∙ taken)))
            (cases_Bool (is_none (node_at tree at)))
      ] refl

  -- ---- the pair that decides

  best_is : (asked : Option Asked) (prefix rest : List ℕ) → may_cut rest ≡ true → IsBest tree asked prefix rest (pair_with tree asked prefix rest)
  best_is asked prefix rest cut =
      let vanity = cond (goes_on_after_prefix VanityPath rest) (vanity_with tree prefix) None in
      elim (mapping_with tree (node_of_host asked) prefix) as (λ o. IsOf Mapping tree asked prefix o → IsBest tree asked prefix rest (option_or o (option_or (pattern_with tree asked prefix) (option_or (alias_with tree prefix) vanity)))) [
        | Some pair ↦ λ is. best_mapping tree asked prefix rest cut pair is
        | None ↦ λ no_mapping.
            elim (pattern_with tree asked prefix) as (λ o. IsOf Pattern tree asked prefix o → IsBest tree asked prefix rest (option_or o (option_or (alias_with tree prefix) vanity))) [
              | Some pair ↦ λ is. best_pattern tree asked prefix rest cut pair no_mapping is
              | None ↦ λ no_pattern.
                  elim (alias_with tree prefix) as (λ o. IsOf Alias tree None prefix o → IsBest tree asked prefix rest (option_or o vanity)) [
                    | Some pair ↦ λ is. best_alias tree asked prefix rest cut pair no_mapping no_pattern is
                    | None ↦ λ lacks.
                        let no_alias = none_of tree asked prefix rest cut Alias (λ e. cc) (λ e. cc) lacks in
                        ⊎_elim
                        (λ (dot : goes_on_after_prefix VanityPath rest ≡ true).
                        subst (λ b. IsBest tree asked prefix rest (cond b (vanity_with tree prefix) None)) (sym dot)
                        (best_last tree asked prefix rest cut (vanity_with tree prefix) no_mapping no_pattern no_alias dot (vanity_is prefix)))
                        (λ (slash : goes_on_after_prefix VanityPath rest ≡ false).
                        subst (λ b. IsBest tree asked prefix rest (cond b (vanity_with tree prefix) None)) (sym slash)
                        (none_best tree asked prefix rest cut no_mapping no_pattern no_alias (inr slash)))
                        (cases_Bool (goes_on_after_prefix VanityPath rest))
                  ] (alias_is prefix)
            ] (pattern_is tree good asked prefix)
      ] (mapping_pair tree asked prefix (mapping_with tree (node_of_host asked) prefix) (mapping_is (node_of_host asked) prefix))

  at_place : (asked : Option Asked) (text : List ℕ) (at : ℕ) → IsBest tree asked (take at text) (drop at text) (pair_at tree asked text at)
  at_place asked text at =
      let prefix = take at text in
      let rest = drop at text in
      ⊎_elim
      (λ (cut : may_cut rest ≡ true). subst (λ b. IsBest tree asked prefix rest (cond b (pair_with tree asked prefix rest) None)) (sym cut) (best_is asked prefix rest cut))
      (λ (whole : may_cut rest ≡ false).
      subst (λ b. IsBest tree asked prefix rest (cond b (pair_with tree asked prefix rest) None)) (sym whole)
      (λ other has goes. true≢false (sym (goes_on_cut other.kind rest goes) ∙ whole)))
      (cases_Bool (may_cut rest))

  -- what is decided
  abbrev IsDecision : Option Asked → List ℕ → Option (ℕ × Pair) → Type 0
  IsDecision asked text None = HasNoPair tree asked text
  IsDecision asked text (Some (at, pair)) = Decides tree asked text at pair

  decision_is : (asked : Option Asked) (text : List ℕ) (n : ℕ) → n ≤ length text + 1 → ((k : ℕ) (pair : Pair) → n ≤ k → Applies tree asked text k pair → ⊥) → IsDecision asked text (deciding_pair tree asked text n)
  decision_is asked text zero within beyond = λ k pair applies. beyond k pair (omega arith) applies
  decision_is asked text (suc n) within beyond =
      elim (pair_at tree asked text n) as (λ o. IsBest tree asked (take n text) (drop n text) o → IsDecision asked text (option_or (option_map (λ pair. (n, pair)) o) (deciding_pair tree asked text n))) [
        | Some pair ↦ λ best. record {
          applies = record { within = omega (arith, within); has = best.0; continues = best.1 };
          best = λ k other applies. ⊎_elim
              (λ (below : k < n). inl below)
              (λ (above : n ≤ k). ⊎_elim
              (λ (same : k ≡ n).
              inr (same, best.2 other (subst (λ i. IsPair tree asked (take i text) other) same applies.has) (ap (λ i. goes_on_after_prefix other.kind (drop i text)) (sym same) ∙ applies.continues)))
              (λ (apart : k ≢ n). absurd (beyond k other (omega (arith, above, apart)) applies))
              (cases_eq k n))
              (cases_lt k n);
        }
        | None ↦ λ none. decision_is asked text n (omega (arith, within)) (λ k other above applies. ⊎_elim
            (λ (same : k ≡ n). none other (subst (λ i. IsPair tree asked (take i text) other) same applies.has) (ap (λ i. goes_on_after_prefix other.kind (drop i text)) (sym same) ∙ applies.continues))
            (λ (apart : k ≢ n). beyond k other (omega (arith, above, apart)) applies)
            (cases_eq k n))
      ] (at_place asked text n)

  -- ---- the turns

  outcome_is : (away : Option ℕ) (text : List ℕ) (further : List ℕ → MapAnswer) (Further : List ℕ → MapAnswer → Type 0) → ((t : List ℕ) → Further t (further t)) → leads away text (Further text) (outcome away text further)
  outcome_is (Some status) text further Further is = refl
  outcome_is None text further Further is = is text

  pub turns_are : (n : ℕ) (asked : Option Asked) (text : List ℕ) → Turns tree n asked text (answer_of tree n asked text)
  turns_are zero asked text = refl
  turns_are (suc n) asked text =
      elim (deciding_pair tree asked text (suc (length text))) as (λ o. IsDecision asked text o → Turns tree (suc n) asked text (turn text (answer_of tree n None) o)) [
        | None ↦ λ none. inl (none, refl)
        | Some (at, pair) ↦ λ decides. inr (record {
          at = at;
          pair = pair;
          decides = decides;
          outcome = outcome_is pair.away (text_after pair at text) (answer_of tree n None) (Turns tree n None) (turns_are n None);
        })
      ] (decision_is asked text (suc (length text)) (omega arith) (λ k pair above applies. absurd (omega (arith, above, applies.within))))

  pub map_answer_is : (host : List ℕ) (port : ℕ) (text : List ℕ) → IsMapped tree host port text (map_answer tree host port text)
  unfolding IsMapped map_answer
  map_answer_is host port text = turns_are most_turns (Some (asked_for host port text)) text
