-- Two lists of names that rise and have the same names are one; so an index lists the names of files, where none is in doubt.
use Rattle.std.proofs.Common.{◌≡◌, ℕ, false, List, [], ◌∷◌, Option, Some, None, take, refl, sym, ◌∙◌, ap, subst, arith, inl, inr}
use Rattle.std.specs.Prelude.{Contains, IfSome, option_map, slice_get}
use Rattle.std.specs.Cmp.Lexicographic.{nat_list_cmp_total}
use Rattle.std.specs.FinMap.{FinMap, contains_key, entries, entries_sorted, keys}
use Rattle.std.specs.List.{AllByRecursion}
use Rattle.std.specs.List.Sorted.{IsStrictlySortedBy}
use Rattle.std.specs.Option.{is_some}
use Rattle.std.specs.Ordering.{is_eq}
use Rattle.std.specs.declared.cmp.Ordering.TheVariants.{Less}
use Rattle.std.proofs.lemmas.Bool.{false_from_ne_true, true≢false}
use Rattle.std.proofs.lemmas.List.Kept.{IsStrictlySortedBy-filter}
use Rattle.sp_base.specs.Names.{by_name}
use Rattle.sp_base.proofs.ListLemmas.{contains_first, contains_later}
use Rattle.sp_outside.specs.Files.{Files, names_after, names_from}
use Rattle.sp_outside.specs.FolderFiles.{disk_files}
use Rattle.sp_outside.specs.NameIndex.{IsIndex, NameSet}
use Rattle.sp_outside.proofs.Indexed.{Knows}
use Rattle.sp_outside.proofs.Listed.{above, first_or_rest, of_names}
use Rattle.sp_outside.proofs.Listing.{rises, wanted}
use Rattle.sp_outside.proofs.NameSets.{same_key}

not_less : (name : List ℕ) → by_name name name ≡ Less → ⊥
not_less name less = true≢false (sym (same_key name) ∙ ap is_eq less)

not_both : (x y : List ℕ) → by_name x y ≡ Less → by_name y x ≡ Less → ⊥
not_both x y less more = not_less x (nat_list_cmp_total.trans x y x less more)

-- of one more name that is the same the rest has the same names too
rest_has : (x y : List ℕ) (xs ys : List (List ℕ)) → y ≡ x → AllByRecursion (λ other. by_name x other ≡ Less) xs
    → ((name : List ℕ) → Contains (x ∷ xs) name → Contains (y ∷ ys) name) → (name : List ℕ) → Contains xs name → Contains ys name
rest_has x y xs ys same rising to name has = elim (first_or_rest y name ys (to name (contains_later x name xs has))) [
  | inl is ↦ absurd (not_less x (subst (λ n. by_name x n ≡ Less) (sym is ∙ same) (above x xs name rising has)))
  | inr more ↦ more
]

first_same : (x y : List ℕ) (xs ys : List (List ℕ)) → AllByRecursion (λ other. by_name x other ≡ Less) xs → AllByRecursion (λ other. by_name y other ≡ Less) ys
    → Contains (y ∷ ys) x → Contains (x ∷ xs) y → y ≡ x
first_same x y xs ys up rising has holds = elim (first_or_rest y x ys has) [
  | inl same ↦ same
  | inr later ↦ elim (first_or_rest x y xs holds) [
    | inl same ↦ sym same
    | inr more ↦ absurd (not_both x y (above x xs y up more) (above y ys x rising later))
  ]
]

pub same_lists : (xs ys : List (List ℕ)) → IsStrictlySortedBy by_name xs → IsStrictlySortedBy by_name ys
    → ((name : List ℕ) → Contains xs name → Contains ys name) → ((name : List ℕ) → Contains ys name → Contains xs name) → xs ≡ ys
unfolding IsStrictlySortedBy
same_lists [] [] up rising to from = refl
same_lists [] (y ∷ ys) up rising to from = absurd (omega (arith, (from y (contains_first y ys)).1))
same_lists (x ∷ xs) [] up rising to from = absurd (omega (arith, (to x (contains_first x xs)).1))
same_lists (x ∷ xs) (y ∷ ys) up rising to from =
    let same : y ≡ x = first_same x y xs ys up.0 rising.0 (to x (contains_first x xs)) (from y (contains_first y ys)) in
    let rest : xs ≡ ys = same_lists xs ys up.1 rising.1 (rest_has x y xs ys same up.0 to) (rest_has y x ys xs (sym same) rising.0 from) in
    ap (λ name. name ∷ xs) (sym same) ∙ ap (λ names. y ∷ names) rest

names_rise : {X : Type 0} (kept : FinMap by_name X) (prefix after : List ℕ) → IsStrictlySortedBy by_name (names_from (keys kept) prefix after)
names_rise kept prefix after = IsStrictlySortedBy-filter by_name (wanted prefix after) (keys kept) (rises (entries kept) (entries_sorted kept))

no_doubt : (doubts : NameSet) (prefix after name : List ℕ) → names_from (keys doubts) prefix after ≡ []
    → (Contains (names_from (keys doubts) prefix after) name) → ⊥
no_doubt doubts prefix after name none has =
    let in_none : Contains [] name = subst (λ names. Contains names name) none has in
    omega (arith, in_none.1)

pub listed_same : (files : Files) (names doubts : NameSet) (prefix after : List ℕ) → IsIndex files names doubts → names_from (keys doubts) prefix after ≡ []
    → names_from (keys names) prefix after ≡ names_after files prefix after
listed_same files names doubts prefix after index none =
    same_lists (names_from (keys names) prefix after) (names_after files prefix after) (names_rise names prefix after) (names_rise files prefix after)
    (λ name has.
    let is = (of_names names prefix after name).0 has in
    let sure : contains_key doubts name ≡ false = false_from_ne_true (contains_key doubts name) (λ in_doubt.
    no_doubt doubts prefix after name none ((of_names doubts prefix after name).1 (is.0, is.1, in_doubt))) in
    (of_names files prefix after name).1 (is.0, is.1, index.backed name is.2 sure))
    (λ name has.
    let is = (of_names files prefix after name).0 has in
    (of_names names prefix after name).1 (is.0, is.1, index.listed name is.2))

pub listed_told : (below : Option Files) (names doubts : NameSet) (prefix after : List ℕ) (most : ℕ) (listed : List (List ℕ)) → Knows below names doubts
    → names_from (keys doubts) prefix after ≡ [] → listed ≡ take most (names_from (keys names) prefix after)
    → IfSome (option_map disk_files below) (λ held. listed ≡ take most (names_after held prefix after))
listed_told None names doubts prefix after most listed index none is = tt
listed_told (Some files) names doubts prefix after most listed index none is =
    is ∙ ap (take most) (listed_same (disk_files files) names doubts prefix after index none)

-- a list of at most one name that has none is one of none
pub none_first : (names : List (List ℕ)) → slice_get (take 1 names) 0 ≡ None → names ≡ []
none_first [] none = refl
none_first (name ∷ names) none = absurd (true≢false (ap is_some none))
