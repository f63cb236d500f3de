-- The names of a list are those of files, and none that it came to is left out.
use Rattle.std.proofs.Common.{◌≡◌, ◌≢◌, ◌<◌, ◌&&◌, ◌⊎◌, inl, inr, ℕ, zero, suc, Bool, true, false, cond, List, [], ◌∷◌, length, take, refl, sym, ◌∙◌, ap, subst, arith}
use Rattle.std.specs.Prelude.{Contains, ◌↔◌}
use Rattle.std.specs.Cmp.{eq_by_cmp_equiv}
use Rattle.std.specs.Cmp.Lexicographic.{nat_list_cmp_total}
use Rattle.std.specs.FinMap.{FinMap, contains_key, contains_key-keys, entries, entries_sorted, keys}
use Rattle.std.specs.List.{AllByRecursion, filter, list_any}
use Rattle.std.specs.List.Sorted.{IsStrictlySortedBy}
use Rattle.std.specs.Ordering.{eq_by_cmp, is_lt}
use Rattle.std.specs.declared.cmp.Ordering.TheVariants.{Less}
use Rattle.std.proofs.lemmas.Bool.{or_cases, true≢false}
use Rattle.std.proofs.lemmas.List.Elements.{All-contains, All-contains_itself, All-filter, filter_passes}
use Rattle.std.proofs.lemmas.List.Kept.{IsStrictlySortedBy-filter}
use Rattle.std.proofs.lemmas.Map.Views.{list_any-from_Contains}
use Rattle.sp_base.specs.Names.{by_name}
use Rattle.sp_base.proofs.BoolLemmas.{and_first, and_second}
use Rattle.sp_base.proofs.ListLemmas.{contains_first, contains_later, first_or_later}
use Rattle.sp_base.proofs.OptionLemmas.{test_from_there, there_from_test}
use Rattle.sp_base.proofs.OrderingLemmas.{equal_from_test, less_from_test}
use Rattle.sp_outside.specs.FileNames.{HasReached, IsNameAfter}
use Rattle.sp_outside.specs.Files.{Files, file_at, has_prefix, names_after, names_from}
use Rattle.sp_outside.specs.FolderFiles.{IsNamesOf}
use Rattle.sp_outside.proofs.HeldNames.{same_name}
use Rattle.sp_outside.proofs.Listing.{rises, wanted}

-- ---- elements

pub first_or_rest : (x y : List ℕ) (xs : List (List ℕ)) → Contains (x ∷ xs) y → (x ≡ y) ⊎ Contains xs y
first_or_rest x y xs has = first_or_later x y xs has.0 has.1 has.2

kept_by : (test : List ℕ → Bool) (xs : List (List ℕ)) (x : List ℕ) → Contains xs x → test x ≡ true → Contains (filter test xs) x
kept_by test [] x has passes = absurd (omega (arith, has.1))
kept_by test (y ∷ xs) x has passes = elim (first_or_rest y x xs has) [
  | inl same ↦ subst (λ (l : List (List ℕ)). Contains l x) (sym (ap (λ b. cond b (y ∷ filter test xs) (filter test xs)) (ap test same ∙ passes)))
      (subst (λ z. Contains (z ∷ filter test xs) x) (sym same) (contains_first x (filter test xs)))
  | inr more ↦ elim (test y) as (λ b. Contains (cond b (y ∷ filter test xs) (filter test xs)) x) [
    | true ↦ contains_later y x (filter test xs) (kept_by test xs x more passes)
    | false ↦ kept_by test xs x more passes
  ]
]

-- ---- the names of files

among : (name : List ℕ) (names : List (List ℕ)) → list_any (eq_by_cmp by_name name) names ≡ true → Contains names name
among name [] e = absurd (true≢false (sym e))
among name (other ∷ names) e = elim (or_cases (eq_by_cmp by_name name other) (list_any (eq_by_cmp by_name name) names) e) [
  | inl same ↦ subst (λ x. Contains (x ∷ names) name) (same_name name other (equal_from_test (by_name name other) same)) (contains_first name names)
  | inr more ↦ contains_later other name names (among name names more)
]

pub of_names : {X : Type 0} (kept : FinMap by_name X) (prefix after name : List ℕ)
    → Contains (names_from (keys kept) prefix after) name ↔ ((has_prefix prefix name ≡ true) × (by_name after name ≡ Less) × (contains_key kept name ≡ true))
of_names kept prefix after name =
    let names = names_from (keys kept) prefix after in (
      λ has.
          let passes = All-contains (λ n. wanted prefix after n ≡ true) names name (filter_passes (wanted prefix after) (keys kept)) has in
          let known = All-contains (Contains (keys kept)) names name (All-filter (wanted prefix after) (Contains (keys kept)) (keys kept) (All-contains_itself (keys kept))) has in (
            and_first _ _ passes,
            less_from_test _ (and_second (has_prefix prefix name) _ passes),
            contains_key-keys kept name ∙ list_any-from_Contains (eq_by_cmp_equiv nat_list_cmp_total) name (keys kept) known,
          ),
      λ is.
          kept_by (wanted prefix after) (keys kept) name
          (among name (keys kept) (sym (contains_key-keys kept name) ∙ is.2))
          (ap (λ b. b && is_lt (by_name after name)) is.0 ∙ ap is_lt is.1),
    )

pub of_files : (files : Files) (prefix after name : List ℕ) → Contains (names_after files prefix after) name ↔ IsNameAfter files prefix after name
of_files files prefix after name =
    let is = of_names files prefix after name in (
      λ has. let named = is.0 has in (named.0, named.1, there_from_test (file_at files name) named.2),
      λ named. is.1 (named.0, named.1, test_from_there (file_at files name) named.2),
    )

-- all names are exactly those of files
pub all_names_of : (files : Files) (names : List (List ℕ)) → names ≡ keys files → IsNamesOf files names
all_names_of files names is name = (
  λ has. there_from_test (file_at files name) (contains_key-keys files name ∙ list_any-from_Contains (eq_by_cmp_equiv nat_list_cmp_total) name (keys files) (subst (λ (l : List (List ℕ)). Contains l name) is has)),
  λ stands. subst (λ (l : List (List ℕ)). Contains l name) (sym is) (among name (keys files) (sym (contains_key-keys files name) ∙ test_from_there (file_at files name) stands)),
)

-- ---- names that rise

pub above : (name : List ℕ) (names : List (List ℕ)) (other : List ℕ) → AllByRecursion (λ next. by_name name next ≡ Less) names → Contains names other → by_name name other ≡ Less
above name [] other all has = absurd (omega (arith, has.1))
above name (next ∷ names) other all has = elim (first_or_rest next other names has) [
  | inl same ↦ subst (λ n. by_name name n ≡ Less) same all.0
  | inr more ↦ above name names other all.1 more
]

-- a name that one of the first isn't before is among the first
reached : (n : ℕ) (names : List (List ℕ)) (listed name : List ℕ) → IsStrictlySortedBy by_name names → Contains names name → Contains (take n names) listed → by_name listed name ≢ Less
    → Contains (take n names) name
unfolding IsStrictlySortedBy
reached zero names listed name rising has first last = absurd (omega (arith, first.1))
reached (suc n) [] listed name rising has first last = absurd (omega (arith, has.1))
reached (suc n) (next ∷ names) listed name rising has first last = elim (first_or_rest next name names has) [
  | inl same ↦ subst (λ x. Contains (x ∷ take n names) name) (sym same) (contains_first name (take n names))
  | inr more ↦ elim (first_or_rest next listed (take n names) first) [
    | inl same ↦ absurd (last (subst (λ x. by_name x name ≡ Less) same (above next names name rising.0 more)))
    | inr later ↦ contains_later next name (take n names) (reached n names listed name rising.1 more later last)
  ]
]

all_taken : (n : ℕ) (names : List (List ℕ)) → length (take n names) < n → take n names ≡ names
all_taken zero names lt = absurd (omega (arith, lt))
all_taken (suc n) [] lt = refl
all_taken (suc n) (name ∷ names) lt = ap (λ rest. name ∷ rest) (all_taken n names (omega (arith, lt)))

pub passed_over : (files : Files) (prefix after name : List ℕ) (most : ℕ) (names : List (List ℕ)) → names ≡ take most (names_after files prefix after) → IsNameAfter files prefix after name
    → HasReached names most name → Contains names name
passed_over files prefix after name most names is named came =
    let all = names_after files prefix after in
    let has = (of_files files prefix after name).1 named in
    let rising = IsStrictlySortedBy-filter by_name (wanted prefix after) (keys files) (rises (entries files) (entries_sorted files)) in
    subst (λ (l : List (List ℕ)). Contains l name) (sym is)
    (elim (subst (λ (l : List (List ℕ)). HasReached l most name) is came) [
      | inl one ↦ reached most all one.0 name rising has one.1 one.2
      | inr room ↦ subst (λ (l : List (List ℕ)). Contains l name) (sym (all_taken most all room)) has
    ])
