-- Which pair decides among those with a prefix, and which in a turn.
use Rattle.std.proofs.Common.{◌≡◌, ◌≢◌, ◌≤◌, ◌<◌, ℕ, true, false, List, [], ◌∷◌, Option, Some, None, take, drop, length, get_or, refl, sym, ◌∙◌, ap, subst, arith, ⊎_elim, ◌⊎◌, inl, inr}
use Rattle.std.specs.Prelude.{◌||◌, ◌==◌}
use Rattle.std.proofs.lemmas.Bool.{cases_Bool, eqb-true, true≢false, false≢true, cases_lt, cases_eq}
use Rattle.std.proofs.lemmas.List.{get_or-take, take-take}
use Rattle.std.proofs.Math.Seq.{drop-cons}
use Rattle.regex_rules.specs.Fronts.{may_cut}
use Rattle.resource_tree.specs.Content.{Content}
use Rattle.url_maps.specs.declared.pairs.Pair.{Pair}
use Rattle.url_maps.specs.declared.pairs.PairKind.{PairKind}
use Rattle.url_maps.specs.declared.pairs.PairKind.TheVariants.{Mapping, Pattern, Alias, VanityPath}
use Rattle.url_maps.specs.Patterns.{Asked, node_of_host}
use Rattle.url_maps.specs.Pairs.{Applies, Decides, HasNoPair, IsPair, IsPairOf, goes_on_after_prefix, rank}
use Rattle.url_maps.specs.Search.{HasNoneBeyond, IsBest, IsMappingOf, IsOf, is_separator}

-- ---- among the pairs with a prefix

cut_goes_on : (kind : PairKind) (rest : List ℕ) → kind ≢ VanityPath → may_cut rest ≡ true → goes_on_after_prefix kind rest ≡ true
cut_goes_on kind [] other cut = refl
cut_goes_on Mapping (b ∷ rest) other cut = cut
cut_goes_on Pattern (b ∷ rest) other cut = cut
cut_goes_on Alias (b ∷ rest) other cut = cut
cut_goes_on VanityPath (b ∷ rest) other cut = absurd (other refl)

pub goes_on_cut : (kind : PairKind) (rest : List ℕ) → goes_on_after_prefix kind rest ≡ true → may_cut rest ≡ true
goes_on_cut kind [] goes = refl
goes_on_cut Mapping (b ∷ rest) goes = goes
goes_on_cut Pattern (b ∷ rest) goes = goes
goes_on_cut Alias (b ∷ rest) goes = goes
goes_on_cut VanityPath (b ∷ rest) goes = ap (λ x. x || b == 47) goes

module _ (tree : Content) (asked : Option Asked) (prefix rest : List ℕ) (cut : may_cut rest ≡ true) where
  -- there is none of a kind
  abbrev pub HasNone : PairKind → Type 0
  HasNone kind = (pair : Pair) → pair.kind ≡ kind → IsPair tree asked prefix pair → ⊥

  abbrev Kinds : PairKind → Type 0
  Kinds kind = (kind ≡ Mapping) ⊎ ((kind ≡ Pattern) ⊎ ((kind ≡ Alias) ⊎ (kind ≡ VanityPath)))

  kinds : (kind : PairKind) → Kinds kind
  kinds Mapping = inl refl
  kinds Pattern = inr (inl refl)
  kinds Alias = inr (inr (inl refl))
  kinds VanityPath = inr (inr (inr refl))

  -- what holds of each kind holds of one
  by_kind : {A : Type 0} (kind : PairKind) → (kind ≡ Mapping → A) → (kind ≡ Pattern → A) → (kind ≡ Alias → A) → (kind ≡ VanityPath → A) → A
  by_kind kind mapping pattern alias vanity = ⊎_elim mapping (⊎_elim pattern (⊎_elim alias vanity)) (kinds kind)

  pub best_mapping : (pair : Pair) → IsOf Mapping tree asked prefix (Some pair) → IsBest tree asked prefix rest (Some pair)
  best_mapping pair is = (
    is.1,
    ap (λ k. goes_on_after_prefix k rest) is.0 ∙ cut_goes_on Mapping rest (λ e. cc) cut,
    λ other has goes. subst (λ k. rank k ≤ rank other.kind) (sym is.0) (omega arith),
  )

  pub best_pattern : (pair : Pair) → HasNone Mapping → IsOf Pattern tree asked prefix (Some pair) → IsBest tree asked prefix rest (Some pair)
  best_pattern pair no_mapping is = (
    is.1,
    ap (λ k. goes_on_after_prefix k rest) is.0 ∙ cut_goes_on Pattern rest (λ e. cc) cut,
    λ other has goes. subst (λ k. rank k ≤ rank other.kind) (sym is.0)
        (by_kind other.kind (λ m. absurd (no_mapping other m has)) (λ p. subst (λ k. 1 ≤ rank k) (sym p) (omega arith)) (λ a. subst (λ k. 1 ≤ rank k) (sym a) (omega arith)) (λ v. subst (λ k. 1 ≤ rank k) (sym v) (omega arith))),
  )

  of_host_node : (kind : PairKind) (pair : Pair) → kind ≢ Mapping → kind ≢ Pattern → IsPairOf kind tree None prefix pair → IsPairOf kind tree asked prefix pair
  of_host_node Mapping pair other also is = absurd (other refl)
  of_host_node Pattern pair other also is = absurd (also refl)
  of_host_node Alias pair other also is = is
  of_host_node VanityPath pair other also is = is

  of_none : (kind : PairKind) (pair : Pair) → kind ≢ Mapping → kind ≢ Pattern → IsPairOf kind tree asked prefix pair → IsPairOf kind tree None prefix pair
  of_none Mapping pair other also is = absurd (other refl)
  of_none Pattern pair other also is = absurd (also refl)
  of_none Alias pair other also is = is
  of_none VanityPath pair other also is = is

  alias_apart : (kind : PairKind) → kind ≡ Alias → kind ≢ Mapping
  alias_apart kind is e = cc

  alias_no_pattern : (kind : PairKind) → kind ≡ Alias → kind ≢ Pattern
  alias_no_pattern kind is e = cc

  vanity_apart : (kind : PairKind) → kind ≡ VanityPath → kind ≢ Mapping
  vanity_apart kind is e = cc

  vanity_no_pattern : (kind : PairKind) → kind ≡ VanityPath → kind ≢ Pattern
  vanity_no_pattern kind is e = cc

  -- none of a kind, whatever is asked
  pub none_of : (kind : PairKind) → kind ≢ Mapping → kind ≢ Pattern → IsOf kind tree None prefix None → HasNone kind
  none_of kind apart other none pair is has = none pair is (of_none pair.kind pair (λ e. apart (sym is ∙ e)) (λ e. other (sym is ∙ e)) has)

  pub best_alias : (pair : Pair) → HasNone Mapping → HasNone Pattern → IsOf Alias tree None prefix (Some pair) → IsBest tree asked prefix rest (Some pair)
  best_alias pair no_mapping no_pattern is = (
    of_host_node pair.kind pair (alias_apart pair.kind is.0) (alias_no_pattern pair.kind is.0) is.1,
    ap (λ k. goes_on_after_prefix k rest) is.0 ∙ cut_goes_on Alias rest (λ e. cc) cut,
    λ other has goes. subst (λ k. rank k ≤ rank other.kind) (sym is.0)
        (by_kind other.kind (λ m. absurd (no_mapping other m has)) (λ p. absurd (no_pattern other p has)) (λ a. subst (λ k. 2 ≤ rank k) (sym a) (omega arith)) (λ v. subst (λ k. 2 ≤ rank k) (sym v) (omega arith))),
  )

  pub best_vanity : (pair : Pair) → HasNone Mapping → HasNone Pattern → HasNone Alias → goes_on_after_prefix VanityPath rest ≡ true → IsOf VanityPath tree None prefix (Some pair) → IsBest tree asked prefix rest (Some pair)
  best_vanity pair no_mapping no_pattern no_alias dot is = (
    of_host_node pair.kind pair (vanity_apart pair.kind is.0) (vanity_no_pattern pair.kind is.0) is.1,
    ap (λ k. goes_on_after_prefix k rest) is.0 ∙ dot,
    λ other has goes. subst (λ k. rank k ≤ rank other.kind) (sym is.0)
        (by_kind other.kind (λ m. absurd (no_mapping other m has)) (λ p. absurd (no_pattern other p has)) (λ a. absurd (no_alias other a has)) (λ v. subst (λ k. 3 ≤ rank k) (sym v) (omega arith))),
  )

  pub none_best : HasNone Mapping → HasNone Pattern → HasNone Alias → (HasNone VanityPath ⊎ (goes_on_after_prefix VanityPath rest ≡ false)) → IsBest tree asked prefix rest None
  none_best no_mapping no_pattern no_alias no_vanity other has goes =
      by_kind other.kind (λ m. no_mapping other m has) (λ p. no_pattern other p has) (λ a. no_alias other a has)
      (λ (v : other.kind ≡ VanityPath). ⊎_elim (λ none. none other v has) (λ slash. true≢false (sym goes ∙ ap (λ k. goes_on_after_prefix k rest) v ∙ slash)) no_vanity)

-- a mapping of the host node is the pair of its kind
pub mapping_pair : (tree : Content) (asked : Option Asked) (prefix : List ℕ) (o : Option Pair) → IsMappingOf tree (node_of_host asked) prefix o → IsOf Mapping tree asked prefix o
mapping_pair tree asked prefix (Some pair) is = (is.0, subst (λ kind. IsPairOf kind tree asked prefix pair) (sym is.0) is.1)
mapping_pair tree asked prefix None none = λ pair is has. none pair (subst (λ kind. IsPairOf kind tree asked prefix pair) is has)

-- a rest from a slash on is none of a vanity path
pub slash_rest : (rest : List ℕ) → (get_or rest 0 0 == 47) ≡ true → goes_on_after_prefix VanityPath rest ≡ false
slash_rest [] slash = absurd (false≢true slash)
slash_rest (b ∷ rest) slash = let is : b ≡ 47 = eqb-true b 47 slash in ap (λ x. x == 46) is

-- any other is one
pub dot_rest : (rest : List ℕ) → may_cut rest ≡ true → (get_or rest 0 0 == 47) ≡ false → goes_on_after_prefix VanityPath rest ≡ true
dot_rest [] cut no_slash = refl
dot_rest (b ∷ rest) cut no_slash =
    ⊎_elim (λ (dot : (b == 46) ≡ true). dot)
    (λ (other : (b == 46) ≡ false). absurd (true≢false (sym cut ∙ ap (λ x. x || b == 47) other ∙ no_slash)))
    (cases_Bool (b == 46))

-- the last kind, where there is none of the others
pub best_last : (tree : Content) (asked : Option Asked) (prefix rest : List ℕ) (cut : may_cut rest ≡ true) (o : Option Pair) → HasNone tree asked prefix rest cut Mapping → HasNone tree asked prefix rest cut Pattern → HasNone tree asked prefix rest cut Alias → goes_on_after_prefix VanityPath rest ≡ true
    → IsOf VanityPath tree None prefix o → IsBest tree asked prefix rest o
best_last tree asked prefix rest cut (Some pair) no_mapping no_pattern no_alias dot is = best_vanity tree asked prefix rest cut pair no_mapping no_pattern no_alias dot is
best_last tree asked prefix rest cut None no_mapping no_pattern no_alias dot is = none_best tree asked prefix rest cut no_mapping no_pattern no_alias (inl (none_of tree asked prefix rest cut VanityPath (λ e. cc) (λ e. cc) is))

-- ---- in a turn, from the longest prefix down

pub cut_at : (text : List ℕ) (k : ℕ) → k < length text → may_cut (drop k text) ≡ is_separator (get_or text k 0)
cut_at text k within = ap may_cut (drop-cons text k 0 within)

pub passed_prefix : (tree : Content) (asked : Option Asked) (text prefix : List ℕ) → prefix ≡ take (length prefix) text → IsBest tree asked prefix (drop (length prefix) text) None
    → HasNoneBeyond tree asked text (length prefix) → (k : ℕ) (pair : Pair) → length prefix ≤ k → Applies tree asked text k pair → ⊥
passed_prefix tree asked text prefix is none beyond k pair le applies = ⊎_elim
    (λ (same : k ≡ length prefix).
    none pair (subst (λ t. IsPair tree asked t pair) (ap (λ n. take n text) same ∙ sym is) applies.has) (ap (λ n. goes_on_after_prefix pair.kind (drop n text)) (sym same) ∙ applies.continues))
    (λ (other : k ≢ length prefix). beyond k pair (omega (arith, le, other)) applies)
    (cases_eq k (length prefix))

-- nor between a prefix and the next shorter one
pub passed_between : (tree : Content) (asked : Option Asked) (text prefix : List ℕ) (at : ℕ) → prefix ≡ take (length prefix) text → length prefix ≤ length text
    → ((k : ℕ) (pair : Pair) → length prefix ≤ k → Applies tree asked text k pair → ⊥) → ((k : ℕ) → at < k → k < length prefix → is_separator (get_or prefix k 0) ≡ false)
    → HasNoneBeyond tree asked text at
passed_between tree asked text prefix at is within passed none k pair lt applies = ⊎_elim
    (λ (below : k < length prefix).
    let inside : k < length text = omega (arith, below, within) in
    true≢false (sym (goes_on_cut pair.kind (drop k text) applies.continues) ∙ cut_at text k inside
    ∙ ap is_separator (sym (ap (λ t. get_or t k 0) is ∙ get_or-take (length prefix) text k 0 below)) ∙ none k lt below))
    (λ (above : length prefix ≤ k). passed k pair above applies)
    (cases_lt k (length prefix))

-- nor anywhere, where the prefix has no separator
pub passed_all : (tree : Content) (asked : Option Asked) (text prefix : List ℕ) → prefix ≡ take (length prefix) text → length prefix ≤ length text
    → ((k : ℕ) (pair : Pair) → length prefix ≤ k → Applies tree asked text k pair → ⊥) → ((k : ℕ) → k < length prefix → is_separator (get_or prefix k 0) ≡ false)
    → HasNoPair tree asked text
passed_all tree asked text prefix is within passed none k pair applies = ⊎_elim
    (λ (below : k < length prefix).
    let inside : k < length text = omega (arith, below, within) in
    true≢false (sym (goes_on_cut pair.kind (drop k text) applies.continues) ∙ cut_at text k inside
    ∙ ap is_separator (sym (ap (λ t. get_or t k 0) is ∙ get_or-take (length prefix) text k 0 below)) ∙ none k below))
    (λ (above : length prefix ≤ k). passed k pair above applies)
    (cases_lt k (length prefix))

-- the best pair of a prefix decides, where no longer prefix has one
pub decides_here : (tree : Content) (asked : Option Asked) (text prefix : List ℕ) (pair : Pair) → prefix ≡ take (length prefix) text → length prefix ≤ length text
    → IsBest tree asked prefix (drop (length prefix) text) (Some pair) → HasNoneBeyond tree asked text (length prefix) → Decides tree asked text (length prefix) pair
decides_here tree asked text prefix pair is within best beyond = record {
  applies = record { within = within; has = subst (λ t. IsPair tree asked t pair) is best.0; continues = best.1 };
  best = λ k other applies. ⊎_elim
      (λ (below : k < length prefix). inl below)
      (λ (above : length prefix ≤ k). ⊎_elim
      (λ (same : k ≡ length prefix).
      inr (same, best.2 other (subst (λ t. IsPair tree asked t other) (ap (λ n. take n text) same ∙ sym is) applies.has) (ap (λ n. goes_on_after_prefix other.kind (drop n text)) (sym same) ∙ applies.continues)))
      (λ (apart : k ≢ length prefix). absurd (beyond k other (omega (arith, above, apart)) applies))
      (cases_eq k (length prefix)))
      (cases_lt k (length prefix));
}

pub shorter_prefix : (text prefix front : List ℕ) → prefix ≡ take (length prefix) text → front ≡ take (length front) prefix → length front < length prefix → front ≡ take (length front) text
shorter_prefix text prefix front is cut less = cut ∙ ap (take (length front)) is ∙ take-take (length front) (length prefix) text (omega (arith, less))

pub prefix_cut : (text prefix front : List ℕ) → prefix ≡ take (length prefix) text → length prefix ≤ length text → length front < length prefix → is_separator (get_or prefix (length front) 0) ≡ true → may_cut (drop (length front) text) ≡ true
prefix_cut text prefix front is within less separator =
    cut_at text (length front) (omega (arith, within, less)) ∙ ap is_separator (sym (ap (λ t. get_or t (length front) 0) is ∙ get_or-take (length prefix) text (length front) 0 less)) ∙ separator
