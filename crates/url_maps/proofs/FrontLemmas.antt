-- The first front among the rows of an index, and the pair that it gives.
use Rattle.std.proofs.Common.{◌≡◌, ◌≢◌, ◌⊎◌, inl, inr, ◌≤◌, ◌<◌, ◌+◌, ◌-◌, ℕ, true, false, cond, List, [], ◌∷◌, ◌++◌, Option, Some, None, take, drop, length, get_or, refl, sym, ◌∙◌, ap, subst, arith, ⊎_elim, length-append}
use Rattle.std.specs.Prelude.{◌==◌, is_some, nat_lt, if◌then◌else◌}
use Rattle.std.specs.Borrow.{Bor}
use Rattle.std.specs.Ordering.{is_lt}
use Rattle.std.specs.Str.{chars}
use Rattle.std.specs.declared.cmp.Ordering.TheVariants.{Less}
use Rattle.std.proofs.lemmas.Bool.{cases_Bool, true≢false, cases_lt, cases_eq, eqb-true}
use Rattle.std.proofs.lemmas.Bool.Decides.{nat_tests}
use Rattle.std.proofs.lemmas.List.{length-take-le}
use Rattle.std.proofs.Math.Seq.{take-append-add, drop-append-add}
use Rattle.sp_base.specs.Names.{by_name}
use Rattle.sp_base.specs.Paths.{is_path, path_or_none}
use Rattle.sp_base.proofs.OrderingLemmas.{less_from_test}
use Rattle.regex_rules.specs.Trees.{PatternTree, tree_of}
use Rattle.regex_rules.specs.Languages.{InLanguage}
use Rattle.regex_rules.specs.Fronts.{IsFront, IsLastFront, may_cut}
use Rattle.resource_tree.specs.declared.nodes.Node.{Node}
use Rattle.resource_tree.specs.Content.{Content, IsTree, kid, name_of, node_at}
use Rattle.url_maps.specs.declared.fronts.PatternFront.{PatternFront}
use Rattle.url_maps.specs.declared.fronts.RowFront.{RowFront}
use Rattle.url_maps.specs.declared.patterns.PatternNode.{PatternNode}
use Rattle.url_maps.specs.declared.pairs.Pair.{Pair}
use Rattle.url_maps.specs.declared.pairs.PairKind.{PairKind}
use Rattle.url_maps.specs.declared.pairs.PairKind.TheVariants.{Pattern}
use Rattle.url_maps.specs.Found.{IsBehind, IsFirstFront, IsFirstRow, IsLongestPair, first_row, is_ahead, pair_if_at}
use Rattle.url_maps.specs.Mappings.{mapping_of}
use Rattle.url_maps.specs.Pairs.{IsPairOf, goes_on_after_prefix}
use Rattle.url_maps.specs.Patterns.{Asked, GivesPair, IsFrontOf, mappings_path}
use Rattle.url_maps.specs.PatternRows.{ArePatterns, HasRowOf, IsRowAt, IsRowOf}
use Rattle.url_maps.specs.Search.{HasNoneBeyond, IsMappingPair, IsOf}
use Rattle.url_maps.proofs.NameLemmas.{not_less, less_trans}
use Rattle.url_maps.proofs.PatternLemmas.{kid_listed}
use Rattle.url_maps.proofs.RowLemmas.{same_row}

-- ---- of the fronts of some rows the first

module _ (rows : List PatternNode) (whole : List ℕ) (from : ℕ) where
  pub no_fronts : IsFirstFront rows whole from 0 None
  no_fronts = λ k row j lt there front. omega (arith, lt)

  -- a row's own front is the last of its fronts
  own_behind : (row : PatternNode) (at j : ℕ) → IsLastFront (tree_of row.pattern) whole from (Some at) → IsFront (tree_of row.pattern) whole from j → (j < at) ⊎ (j ≡ at)
  own_behind row at j last front = ⊎_elim (λ (less : j < at). inl less) (λ (more : at ≤ j). let le = last.1 j front in inr (omega (arith, le, more))) (cases_lt j at)

  module _ (i : ℕ) (row : Bor PatternNode) (within : i < length rows) (item : row.now ≡ get_or rows i row.now) where
    here : IsRowAt rows i row.now
    here = (within, sym item)

    -- among the rows so far, and this one
    split : {A : Type 0} (k : ℕ) (other : PatternNode) → k < i + 1 → IsRowAt rows k other → (k < i → A) → (other ≡ row.now → A) → A
    split k other lt there before this = ⊎_elim
        (λ (same : k ≡ i). this (same_row rows k i other row.now same there here))
        (λ (apart : k ≢ i). before (omega (arith, lt, apart)))
        (cases_eq k i)

    -- the row has no front
    pub passed : (best : Option RowFront) → IsLastFront (tree_of row.now.pattern) whole from None → IsFirstFront rows whole from i best → IsFirstFront rows whole from (i + 1) best
    passed None none first = λ k other j lt there front.
        split k other lt there (λ less. first k other j less there front) (λ same. none j (subst (λ (r : PatternNode). IsFront (tree_of r.pattern) whole from j) same front))
    passed (Some best) none first = record {
      place = first.place;
      seen = let lt = first.seen in omega (arith, lt);
      there = first.there;
      front = first.front;
      behind = λ k other j lt there front.
          split k other lt there (λ less. first.behind k other j less there front) (λ same. absurd (none j (subst (λ (r : PatternNode). IsFront (tree_of r.pattern) whole from j) same front)));
    }

    -- the row's front is ahead of all before
    taken : (at : ℕ) → IsLastFront (tree_of row.now.pattern) whole from (Some at) → IsBehind rows whole from i at row.now.name → IsFirstRow rows whole from (i + 1) (record { at = at; row = row })
    taken at last behind = record {
      place = i;
      seen = omega arith;
      there = here;
      front = last;
      behind = λ k other j lt there front.
          split k other lt there (λ less. behind k other j less there front)
          (λ same. ⊎_elim
          (λ less. inl less)
          (λ (at_it : j ≡ at). inr (at_it, inl (ap (λ (r : PatternNode). r.name) same)))
          (own_behind row.now at j last (subst (λ (r : PatternNode). IsFront (tree_of r.pattern) whole from j) same front)));
    }

    -- another is ahead of it
    kept : (best : RowFront) (at : ℕ) → IsLastFront (tree_of row.now.pattern) whole from (Some at) → IsFirstRow rows whole from i best
        → ((j : ℕ) → (j < at) ⊎ (j ≡ at) → (j < best.at) ⊎ ((j ≡ best.at) × ((row.now.name ≡ best.row.now.name) ⊎ (by_name best.row.now.name row.now.name ≡ Less))))
        → IsFirstRow rows whole from (i + 1) best
    kept best at last first after = record {
      place = first.place;
      seen = let lt = first.seen in omega (arith, lt);
      there = first.there;
      front = first.front;
      behind = λ k other j lt there front.
          split k other lt there (λ less. first.behind k other j less there front)
          (λ same. subst (λ (r : PatternNode). (j < best.at) ⊎ ((j ≡ best.at) × ((r.name ≡ best.row.now.name) ⊎ (by_name best.row.now.name r.name ≡ Less)))) (sym same)
          (after j (own_behind row.now at j last (subst (λ (r : PatternNode). IsFront (tree_of r.pattern) whole from j) same front))));
    }

    -- by places and names
    ahead_of : (best : RowFront) (at : ℕ) → is_ahead at row.now.name best ≡ true → IsFirstRow rows whole from i best → IsBehind rows whole from i at row.now.name
    ahead_of best at ahead first k other j lt there front = ⊎_elim
        (λ (tie : (at == best.at) ≡ true).
        let same : at ≡ best.at = eqb-true at best.at tie in
        let less : by_name row.now.name best.row.now.name ≡ Less = less_from_test (by_name row.now.name best.row.now.name) (sym (ap (λ b. cond b (is_lt (by_name row.now.name best.row.now.name)) (nat_lt best.at at)) tie) ∙ ahead) in
        ⊎_elim
        (λ (before : j < best.at). inl (omega (arith, before, same)))
        (λ there_too. inr (
          there_too.0 ∙ sym same,
          inr (⊎_elim
              (λ (one : other.name ≡ best.row.now.name). ap (by_name row.now.name) one ∙ less)
              (λ (more : by_name best.row.now.name other.name ≡ Less). less_trans row.now.name best.row.now.name other.name less more)
              there_too.1),
        ))
        (first.behind k other j lt there front))
        (λ (apart : (at == best.at) ≡ false).
        let later : nat_lt best.at at ≡ true = sym (ap (λ b. cond b (is_lt (by_name row.now.name best.row.now.name)) (nat_lt best.at at)) apart) ∙ ahead in
        let below : best.at < at = grind (arith, nat_tests) in
        ⊎_elim (λ (before : j < best.at). inl (omega (arith, before, below))) (λ there_too. let same : j ≡ best.at = there_too.0 in inl (omega (arith, same, below))) (first.behind k other j lt there front))
        (cases_Bool (at == best.at))

    behind_it : (best : RowFront) (at : ℕ) → is_ahead at row.now.name best ≡ false → (j : ℕ) → (j < at) ⊎ (j ≡ at)
        → (j < best.at) ⊎ ((j ≡ best.at) × ((row.now.name ≡ best.row.now.name) ⊎ (by_name best.row.now.name row.now.name ≡ Less)))
    behind_it best at not_ahead j own = ⊎_elim
        (λ (tie : (at == best.at) ≡ true).
        let same : at ≡ best.at = eqb-true at best.at tie in
        let names = not_less row.now.name best.row.now.name (sym (ap (λ b. cond b (is_lt (by_name row.now.name best.row.now.name)) (nat_lt best.at at)) tie) ∙ not_ahead) in
        ⊎_elim (λ (less : j < at). inl (omega (arith, less, same))) (λ (at_it : j ≡ at). inr (at_it ∙ same, names)) own)
        (λ (apart : (at == best.at) ≡ false).
        let not_later : nat_lt best.at at ≡ false = sym (ap (λ b. cond b (is_lt (by_name row.now.name best.row.now.name)) (nat_lt best.at at)) apart) ∙ not_ahead in
        let below : at < best.at = grind (arith, nat_tests) in
        inl (⊎_elim (λ (less : j < at). omega (arith, less, below)) (λ (at_it : j ≡ at). omega (arith, at_it, below)) own))
        (cases_Bool (at == best.at))

    pub next_front : (best : Option RowFront) (front : Option ℕ) → IsLastFront (tree_of row.now.pattern) whole from front → IsFirstFront rows whole from i best → IsFirstFront rows whole from (i + 1) (first_row best front row)
    next_front best None last first = passed best last first
    next_front None (Some at) last first = taken at last (λ k other j lt there front. absurd (first k other j lt there front))
    next_front (Some best) (Some at) last first = ⊎_elim
        (λ (ahead : is_ahead at row.now.name best ≡ true).
        subst (λ b. IsFirstFront rows whole from (i + 1) (cond b (Some (record { at = at; row = row })) (Some best))) (sym ahead) (taken at last (ahead_of best at ahead first)))
        (λ (behind : is_ahead at row.now.name best ≡ false).
        subst (λ b. IsFirstFront rows whole from (i + 1) (cond b (Some (record { at = at; row = row })) (Some best))) (sym behind) (kept best at last first (behind_it best at behind)))
        (cases_Bool (is_ahead at row.now.name best))

    pub next_found : (best : Option RowFront) (front : Option ℕ) (result : Option RowFront) → IsLastFront (tree_of row.now.pattern) whole from front → IsFirstFront rows whole from i best → result ≡ first_row best front row → IsFirstFront rows whole from (i + 1) result
    next_found best front result last first is = subst (λ (o : Option RowFront). IsFirstFront rows whole from (i + 1) o) (sym is) (next_front best front last first)

  pub whole_front : (n : ℕ) (best : Option RowFront) → length rows ≤ n → IsFirstFront rows whole from n best → IsFirstFront rows whole from (length rows) best
  whole_front n None over first = λ k row j lt there front. first k row j (omega (arith, lt, over)) there front
  whole_front n (Some best) over first = record {
    place = first.place;
    seen = first.there.0;
    there = first.there;
    front = first.front;
    behind = λ k row j lt there front. first.behind k row j (omega (arith, lt, over)) there front;
  }

cut_goes : (kind : PairKind) (text : List ℕ) → kind ≡ Pattern → may_cut text ≡ true → goes_on_after_prefix kind text ≡ true
cut_goes kind [] is cut = refl
cut_goes kind (b ∷ rest) is cut = ap (λ k. goes_on_after_prefix k (b ∷ rest)) is ∙ cut

-- the pair found is that of a prefix of its length, and a shorter prefix isn't looked at
pub found_at : (tree : Content) (asked : Option Asked) (text prefix : List ℕ) (found : Option PatternFront) → prefix ≡ take (length prefix) text → IsLongestPair tree asked text found → HasNoneBeyond tree asked text (length prefix)
    → IsOf Pattern tree asked prefix (pair_if_at (length prefix) found)
found_at tree asked text prefix None is none beyond = λ pair kind has. none prefix pair (subst (λ k. IsPairOf k tree asked prefix pair) kind has)
found_at tree asked text prefix (Some found) is (kind, within, cut, pair, longest) beyond = ⊎_elim
    (λ (here : (found.at == length prefix) ≡ true).
    let same : found.at ≡ length prefix = eqb-true found.at (length prefix) here in
    subst (λ b. IsOf Pattern tree asked prefix (cond b (Some found.pair) None)) (sym here)
    (kind, subst (λ k. IsPairOf k tree asked prefix found.pair) (sym kind) (subst (λ t. IsPairOf Pattern tree asked t found.pair) (ap (λ n. take n text) same ∙ sym is) pair)))
    (λ (apart : (found.at == length prefix) ≡ false).
    subst (λ b. IsOf Pattern tree asked prefix (cond b (Some found.pair) None)) (sym apart)
    (λ other other_kind has.
    let above : length prefix ≤ found.at = longest prefix other (subst (λ k. IsPairOf k tree asked prefix other) other_kind has) in
    let after : length prefix < found.at = grind (arith, nat_tests) in
    beyond found.at found.pair after (record { within = within; has = subst (λ k. IsPairOf k tree asked (take found.at text) found.pair) (sym kind) pair; continues = cut_goes found.pair.kind (drop found.at text) kind cut })))
    (cases_Bool (found.at == length prefix))

-- ---- HOST.PORT and the text

abbrev pub whole_of : Asked → List ℕ
whole_of asked = name_of asked.host_node ++ asked.text

abbrev pub from_of : Asked → ℕ
from_of asked = length (name_of asked.host_node)

front_in : (pattern : PatternTree) (asked : Asked) (j : ℕ) → IsFront pattern (whole_of asked) (from_of asked) j → IsFrontOf pattern asked (j - from_of asked)
front_in pattern asked j front =
    let after : from_of asked ≤ j = front.after in
    let there : from_of asked + (j - from_of asked) ≡ j = omega (arith, after) in
    record {
      within = let le = front.within in omega (arith, le, after, length-append (name_of asked.host_node) asked.text);
      cut = ap may_cut (sym (drop-append-add (name_of asked.host_node) asked.text (j - from_of asked)) ∙ ap (λ n. drop n (whole_of asked)) there) ∙ front.cut;
      matches = subst (λ (t : List ℕ). InLanguage pattern (chars t)) (ap (λ n. take n (whole_of asked)) (sym there) ∙ take-append-add (name_of asked.host_node) asked.text (j - from_of asked)) front.matches;
    }

front_out : (pattern : PatternTree) (asked : Asked) (k : ℕ) → IsFrontOf pattern asked k → IsFront pattern (whole_of asked) (from_of asked) (from_of asked + k)
front_out pattern asked k front = record {
  after = omega arith;
  within = let le = front.within in omega (arith, le, length-append (name_of asked.host_node) asked.text);
  cut = ap may_cut (drop-append-add (name_of asked.host_node) asked.text k) ∙ front.cut;
  matches = subst (λ (t : List ℕ). InLanguage pattern (chars t)) (sym (take-append-add (name_of asked.host_node) asked.text k)) front.matches;
}

-- ---- the pair

module _ (tree : Content) (good : IsTree (node_at tree)) (rows : List PatternNode) (are : ArePatterns (node_at tree) rows) (asked : Asked) where
  some_leads : (o : Option (List ℕ × Option ℕ)) (to : List ℕ × Option ℕ) → o ≡ Some to → is_some o ≡ true
  some_leads o to e = ap is_some e

  -- the row of a node that gives a pair
  giver_row : (name prefix : List ℕ) (to : List ℕ × Option ℕ) → (g : GivesPair tree asked name prefix to) → HasRowOf rows name g.pattern
  giver_row name prefix to g =
      are.all name (kid_listed tree good mappings_path name g.node g.there) g.node g.pattern (good.nodes (kid mappings_path name) g.node g.there).is_a_path g.there
      (record { has = g.has; leads = some_leads (mapping_of g.node) to g.leads })

  giver_front : (name prefix : List ℕ) (to : List ℕ × Option ℕ) (g : GivesPair tree asked name prefix to) (has : HasRowOf rows name g.pattern) → IsFront (tree_of has.row.pattern) (whole_of asked) (from_of asked) (from_of asked + length prefix)
  giver_front name prefix to g has =
      subst (λ (p : PatternTree). IsFront p (whole_of asked) (from_of asked) (from_of asked + length prefix)) (sym has.pattern_is) (front_out g.pattern asked (length prefix) g.front.front)

  pub no_pair : IsFirstFront rows (whole_of asked) (from_of asked) (length rows) None → IsLongestPair tree (Some asked) asked.text None
  no_pair none prefix pair p =
      let g = p.gives in
      let has = giver_row p.name prefix (pair.target, pair.away) g in
      none has.place has.row (from_of asked + length prefix) has.there.0 has.there (giver_front p.name prefix (pair.target, pair.away) g has)

  module _ (best : RowFront) (first : IsFirstRow rows (whole_of asked) (from_of asked) (length rows) best) where
    row_of : IsRowOf (node_at tree) best.row.now
    row_of = are.rows_are first.place best.row.now first.there

    valid : is_path (kid mappings_path best.row.now.name) ≡ true
    valid = (good.nodes (kid mappings_path best.row.now.name) row_of.node row_of.there).is_a_path

    -- its node is there, and leads somewhere
    pub no_such_path : path_or_none (kid mappings_path best.row.now.name) ≡ None → ⊥
    no_such_path none = let both : Some (kid mappings_path best.row.now.name) ≡ None = sym (ap (λ b. if b then Some (kid mappings_path best.row.now.name) else None) valid) ∙ none in cc

    pub path_is : (path : List (List ℕ)) → path_or_none (kid mappings_path best.row.now.name) ≡ Some path → path ≡ kid mappings_path best.row.now.name
    path_is path is =
        let both : Some (kid mappings_path best.row.now.name) ≡ Some path = sym (ap (λ b. if b then Some (kid mappings_path best.row.now.name) else None) valid) ∙ is in cc

    pub no_such_node : (path : List (List ℕ)) → path_or_none (kid mappings_path best.row.now.name) ≡ Some path → node_at tree path ≡ None → ⊥
    no_such_node path is none = let both : Some row_of.node ≡ None = sym row_of.there ∙ ap (node_at tree) (sym (path_is path is)) ∙ none in cc

    node_is : (path : List (List ℕ)) (node : Node) → path_or_none (kid mappings_path best.row.now.name) ≡ Some path → node_at tree path ≡ Some node → row_of.node ≡ node
    node_is path node is there = let both : Some row_of.node ≡ Some node = sym row_of.there ∙ ap (node_at tree) (sym (path_is path is)) ∙ there in cc

    pub no_such_pair : (path : List (List ℕ)) (node : Node) → path_or_none (kid mappings_path best.row.now.name) ≡ Some path → node_at tree path ≡ Some node → IsMappingPair node None → ⊥
    no_such_pair path node is there none = true≢false (sym row_of.leads.leads ∙ ap (λ (n : Node). is_some (mapping_of n)) (node_is path node is there) ∙ ap is_some none)

    pub found_pair : (path : List (List ℕ)) (node : Node) (pair : Pair) → path_or_none (kid mappings_path best.row.now.name) ≡ Some path → node_at tree path ≡ Some node → IsMappingPair node (Some pair)
        → IsLongestPair tree (Some asked) asked.text (Some (record { at = best.at - from_of asked; pair = record { kind = Pattern; target = pair.target; away = pair.away } }))
    found_pair path node pair is there leads =
        let at = best.at - from_of asked in
        let after : from_of asked ≤ best.at = first.front.0.after in
        let front = front_in (tree_of best.row.now.pattern) asked best.at first.front.0 in
        let within : at ≤ length asked.text = front.within in
        let size : length (take at asked.text) ≡ at = length-take-le at asked.text within in
        let to : mapping_of row_of.node ≡ Some (pair.target, pair.away) = ap mapping_of (node_is path node is there) ∙ leads.1 in
        let longest : (k : ℕ) → IsFrontOf (tree_of best.row.now.pattern) asked k → k ≤ at = λ k f. let le = first.front.1 (from_of asked + k) (front_out (tree_of best.row.now.pattern) asked k f) in omega (arith, le, after) in
        let gives : GivesPair tree asked best.row.now.name (take at asked.text) (pair.target, pair.away) = record {
          node = row_of.node;
          there = row_of.there;
          pattern = tree_of best.row.now.pattern;
          has = row_of.leads.has;
          front = record {
            is = ap (λ n. take n asked.text) (sym size);
            front = subst (λ n. IsFrontOf (tree_of best.row.now.pattern) asked n) (sym size) front;
            longest = λ k f. subst (λ n. k ≤ n) (sym size) (longest k f);
          };
          leads = to;
        } in (
          refl,
          within,
          front.cut,
          record {
            name = best.row.now.name;
            gives = gives;
            least = λ other also g.
                let has = giver_row other (take at asked.text) also g in
                let behind = first.behind has.place has.row (from_of asked + length (take at asked.text)) has.there.0 has.there (giver_front other (take at asked.text) also g has) in
                subst (λ (n : List ℕ). (n ≡ best.row.now.name) ⊎ (by_name best.row.now.name n ≡ Less)) has.name_is
                (⊎_elim (λ (less : from_of asked + length (take at asked.text) < best.at). absurd (omega (arith, less, size, after))) (λ tie. tie.1) behind);
          },
          λ prefix other p.
              let g = p.gives in
              let has = giver_row p.name prefix (other.target, other.away) g in
              let behind = first.behind has.place has.row (from_of asked + length prefix) has.there.0 has.there (giver_front p.name prefix (other.target, other.away) g has) in
              ⊎_elim (λ (less : from_of asked + length prefix < best.at). omega (arith, less, after)) (λ tie. let same : from_of asked + length prefix ≡ best.at = tie.0 in omega (arith, same, after)) behind,
        )

-- what is found among the rows of an index is so of its rows, of HOST.PORT and the text
pub of_index : (rows of : List PatternNode) (whole : List ℕ) (from : ℕ) (asked : Asked) (o : Option RowFront) → rows ≡ of → whole ≡ whole_of asked → from ≡ from_of asked → IsFirstFront rows whole from (length rows) o
    → IsFirstFront of (whole_of asked) (from_of asked) (length of) o
of_index rows of whole from asked o same text host first =
    subst (λ n. IsFirstFront of (whole_of asked) n (length of) o) host
    (subst (λ t. IsFirstFront of t from (length of) o) text (subst (λ (rs : List PatternNode). IsFirstFront rs whole from (length rs) o) same first))
