-- A walk goes on past a list of names.
use Rattle.std.proofs.Common.{◌≡◌, ◌≢◌, ◌<◌, ◌≤◌, ◌+◌, ◌-◌, ◌⊎◌, inl, inr, ⊎_elim, ℕ, suc, Bool, true, false, not, ◌&&◌, ◌||◌, List, [], ◌∷◌, Option, Some, None, get_or, length, take, drop, refl, sym, ◌∙◌, ap, subst, arith}
use Rattle.std.specs.Prelude.{IsTrue, Contains, is_some, slice_get}
use Rattle.std.specs.Cmp.{tied_itself}
use Rattle.std.specs.Cmp.Lexicographic.{nat_list_cmp_total}
use Rattle.std.specs.FinMap.{keys}
use Rattle.std.specs.List.Sorted.{IsStrictlySortedBy}
use Rattle.std.specs.Ordering.{is_lt, ordering_reverse}
use Rattle.std.specs.declared.cmp.Ordering.{Ordering}
use Rattle.std.specs.declared.cmp.Ordering.TheVariants.{Less}
use Rattle.std.proofs.Math.Nat.{eq-or-lt_of_le}
use Rattle.std.proofs.lemmas.Bool.{and_parts, cases_Bool, not-true, not_from_false, or_cases, or_left, or_right, true≢false}
use Rattle.std.proofs.lemmas.List.{append-nil, drop_all, drop_more, take_more}
use Rattle.std.proofs.lemmas.List.Elements.{All-contains}
use Rattle.std.proofs.lemmas.List.Folds.{list_any-append, list_any_at}
use Rattle.std.proofs.lemmas.Map.Keys.{Less-from_sorted}
use Rattle.std.proofs.lemmas.Option.{get_or_from_slice_get, slice_get-get_or}
use Rattle.sp_base.specs.Names.{by_name}
use Rattle.sp_base.specs.Texts.{Text}
use Rattle.sp_base.proofs.BoolLemmas.{or_false}
use Rattle.sp_base.proofs.OrderingLemmas.{less_from_test}
use Rattle.sp_outside.specs.FileNames.{HasReached, IsNameAfter}
use Rattle.sp_outside.specs.Files.{Files, IsListing, file_at, has_prefix, names_after}
use Rattle.docroot_format.specs.Deletions.{begins_with_any}
use Rattle.docroot_format.specs.Names.{is_page_file}
use Rattle.docroot_format.proofs.NameCode.{is_begun}
use Rattle.invalidation.specs.Slices.{IsListedPage, is_passed, is_to_look_at}
use Rattle.invalidation.specs.Walks.{AreNamesApart, AreGone, IsPageAmong, IsPlaceAfter, TakesFiles, Walked}
use Rattle.invalidation.specs.declared.place.WalkPlace.{WalkPlace}
use Rattle.invalidation.proofs.CountedFiles.{count_listed, count_parts, count_within}
use Rattle.invalidation.proofs.LookedAt.{counted}
use Rattle.invalidation.proofs.TakenFiles.{stays_gone, stays_there, takes_as, takes_none, takes_then}

-- ---- names in their order

not_both : (a b : Text) → by_name a b ≡ Less → is_lt (by_name b a) ≡ false
not_both a b less = ap is_lt (nat_list_cmp_total.antisymm b a) ∙ ap (λ o. is_lt (ordering_reverse o)) less

not_itself : (a : Text) → is_lt (by_name a a) ≡ false
not_itself a = ap is_lt (tied_itself nat_list_cmp_total a)

placed : (i n : ℕ) → i < n → (i < n - 1) ⊎ (i ≡ n - 1)
placed i n lt = ⊎_elim (λ same. inr same) (λ less. inl less) (eq-or-lt_of_le (omega (arith, lt)))

-- no name of a list that rises is after its last
not_after_last : (names : List Text) (last x : Text) → IsStrictlySortedBy by_name names → slice_get names (length names - 1) ≡ Some last → Contains names x → is_lt (by_name last x) ≡ false
not_after_last names last x rising at has =
    let end = get_or_from_slice_get names (length names - 1) last x at in
    ⊎_elim
    (λ lt. not_both x last (subst (λ t. by_name t last ≡ Less) has.2 (subst (λ t. by_name (get_or names has.0 x) t ≡ Less) end (Less-from_sorted by_name names has.0 (length names - 1) x rising lt (omega (arith, has.1))))))
    (λ same. subst (λ t. is_lt (by_name t x) ≡ false) (sym has.2 ∙ ap (λ k. get_or names k x) same ∙ end) (not_itself x))
    (placed has.0 (length names) has.1)

later : (last name : Text) (names : List Text) → IsStrictlySortedBy by_name (last ∷ names) → Contains names name → is_lt (by_name last name) ≡ true
later last name names rising has =
    ap is_lt (subst (λ t. by_name last t ≡ Less) has.2 (Less-from_sorted by_name (last ∷ names) 0 (suc has.0) name rising (omega arith) (omega (arith, has.1))))

rest_rises : (last : Text) (names : List Text) → IsStrictlySortedBy by_name (last ∷ names) → IsStrictlySortedBy by_name names
unfolding IsStrictlySortedBy
rest_rises last names rising = rising.1

-- nothing begins the empty name but itself
no_bytes : (prefix : Text) → has_prefix prefix [] ≡ true → prefix ≡ []
no_bytes [] has = refl
no_bytes (b ∷ prefix) has = absurd (true≢false (sym has))

-- a name that nothing is before is empty, and so no page file's
no_first : (name : Text) → is_page_file name ≡ true → is_lt (by_name [] name) ≡ false → ⊥
no_first [] page none = true≢false (sym page)
no_first (b ∷ name) page none = true≢false none

-- ---- the prefix at which a walk stands

at_prefix : (prefixes : List Text) (n : ℕ) (prefix : Text) → n < length prefixes → slice_get prefixes n ≡ Some prefix → get_or prefixes n prefix ≡ prefix
at_prefix prefixes n prefix lt at = get_or_from_slice_get prefixes n prefix prefix at

stands_at : (prefixes : List Text) (n : ℕ) (prefix name : Text) → n < length prefixes → slice_get prefixes n ≡ Some prefix → begins_with_any (take 1 (drop n prefixes)) name ≡ has_prefix prefix name
stands_at prefixes n prefix name lt at =
    ap (λ (ps : List Text). begins_with_any (take 1 ps) name) (drop_more prefixes n prefix lt)
    ∙ ap (λ p. has_prefix p name || false) (at_prefix prefixes n prefix lt at)
    ∙ or_false (has_prefix prefix name)

goes_past : (prefixes : List Text) (n : ℕ) (prefix name : Text) → n < length prefixes → slice_get prefixes n ≡ Some prefix → begins_with_any (take (n + 1) prefixes) name ≡ (begins_with_any (take n prefixes) name || has_prefix prefix name)
goes_past prefixes n prefix name lt at =
    ap (λ (ps : List Text). begins_with_any ps name) (take_more prefixes n prefix lt)
    ∙ list_any-append (λ p. has_prefix p name) (take n prefixes) (get_or prefixes n prefix ∷ [])
    ∙ ap (λ p. begins_with_any (take n prefixes) name || (has_prefix p name || false)) (at_prefix prefixes n prefix lt at)
    ∙ ap (λ b. begins_with_any (take n prefixes) name || b) (or_false (has_prefix prefix name))

pub begins_some : (prefixes : List Text) (n : ℕ) (prefix name : Text) → n < length prefixes → slice_get prefixes n ≡ Some prefix → has_prefix prefix name ≡ true → begins_with_any prefixes name ≡ true
begins_some prefixes n prefix name lt at has = list_any_at (λ p. has_prefix p name) prefixes n prefix lt (ap (λ p. has_prefix p name) (at_prefix prefixes n prefix lt at) ∙ has)

-- what a place has passed, of names at and before its prefix
abbrev PassedHere : List Text → Text → WalkPlace → Text → Type 0
PassedHere prefixes prefix place name = (begins_with_any (take place.prefix prefixes) name ≡ true) ⊎ ((has_prefix prefix name ≡ true) × (is_lt (by_name place.last name) ≡ false))

passed_is : (prefixes : List Text) (prefix : Text) (place : WalkPlace) (name : Text) → place.prefix < length prefixes → slice_get prefixes place.prefix ≡ Some prefix → is_passed prefixes place name ≡ true → PassedHere prefixes prefix place name
passed_is prefixes prefix place name lt at passed = ⊎_elim (λ a. inl a)
    (λ b. (let w = and_parts _ _ b in inr (sym (stands_at prefixes place.prefix prefix name lt at) ∙ w.0, not-true _ w.1)))
    (or_cases (begins_with_any (take place.prefix prefixes) name) _ passed)

is_passed_as : (prefixes : List Text) (prefix : Text) (place : WalkPlace) (name : Text) → place.prefix < length prefixes → slice_get prefixes place.prefix ≡ Some prefix → PassedHere prefixes prefix place name → is_passed prefixes place name ≡ true
is_passed_as prefixes prefix place name lt at passed = ⊎_elim (λ a. or_left _ _ a)
    (λ w. or_right (begins_with_any (take place.prefix prefixes) name) _
    (ap (λ b. b && not (is_lt (by_name place.last name))) (stands_at prefixes place.prefix prefix name lt at ∙ w.0) ∙ not_from_false _ w.1)) passed

-- ---- after a list

-- a list is there at a place, and this is the place after it
record Lists (prefixes : List Text) (prefix : Text) (start now : WalkPlace) (most : ℕ) (names : List Text) : Type 0 where
  lt : start.prefix < length prefixes
  at : slice_get prefixes start.prefix ≡ Some prefix
  listing : IsListing prefix start.last most names
  some : 0 < most
  after : IsPlaceAfter start names most now

-- a name that begins with the prefix was come to
abbrev Reached : WalkPlace → ℕ → List Text → Text → Type 0
Reached now most names name = (length names < most) ⊎ (is_lt (by_name now.last name) ≡ false)

-- the name is none that a place passes at the start of a prefix, before any of its names
abbrev IsNotFirst : List Text → ℕ → Text → Type 0
IsNotFirst prefixes n name = begins_with_any (take 1 (drop n prefixes)) name ≡ true → is_lt (by_name [] name) ≡ false → ⊥

now_is : (prefixes : List Text) (prefix : Text) (start now : WalkPlace) (most : ℕ) (names : List Text) → Lists prefixes prefix start now most names → (name : Text) → IsNotFirst prefixes (start.prefix + 1) name → is_passed prefixes now name ≡ true
    → (begins_with_any (take start.prefix prefixes) name ≡ true) ⊎ ((has_prefix prefix name ≡ true) × Reached now most names name)
now_is prefixes prefix start now most names l name first passed = ⊎_elim
    (λ next. ⊎_elim
    (λ a. ⊎_elim (λ b. inl b) (λ b. inr (b, inl next.0)) (or_cases _ _ (sym (goes_past prefixes start.prefix prefix name l.lt l.at) ∙ ap (λ n. begins_with_any (take n prefixes) name) (sym next.1) ∙ a)))
    (λ b.
    let w = and_parts (begins_with_any (take 1 (drop now.prefix prefixes)) name) _ b in
    absurd (first (ap (λ n. begins_with_any (take 1 (drop n prefixes)) name) (sym next.1) ∙ w.0) (ap (λ last. is_lt (by_name last name)) (sym next.2) ∙ not-true _ w.1)))
    (or_cases (begins_with_any (take now.prefix prefixes) name) _ passed))
    (λ same.
    let at = subst (λ n. (n < length prefixes) × (slice_get prefixes n ≡ Some prefix)) (sym same.1) (l.lt, l.at) in
    ⊎_elim (λ a. inl (ap (λ n. begins_with_any (take n prefixes) name) (sym same.1) ∙ a)) (λ w. inr (w.0, inr w.1)) (passed_is prefixes prefix now name at.0 at.1 passed))
    l.after

now_as : (prefixes : List Text) (prefix : Text) (start now : WalkPlace) (most : ℕ) (names : List Text) → Lists prefixes prefix start now most names → (name : Text)
    → (begins_with_any (take start.prefix prefixes) name ≡ true) ⊎ ((has_prefix prefix name ≡ true) × (length names ≡ most → is_lt (by_name now.last name) ≡ false)) → is_passed prefixes now name ≡ true
now_as prefixes prefix start now most names l name passed = ⊎_elim
    (λ next. or_left _ _ (ap (λ n. begins_with_any (take n prefixes) name) next.1 ∙ goes_past prefixes start.prefix prefix name l.lt l.at ∙ ⊎_elim (λ a. or_left _ _ a) (λ w. or_right (begins_with_any (take start.prefix prefixes) name) _ w.0) passed))
    (λ same.
    let at = subst (λ n. (n < length prefixes) × (slice_get prefixes n ≡ Some prefix)) (sym same.1) (l.lt, l.at) in
    is_passed_as prefixes prefix now name at.0 at.1 (⊎_elim (λ a. inl (ap (λ n. begins_with_any (take n prefixes) name) same.1 ∙ a)) (λ w. inr (w.0, w.1 same.0)) passed))
    l.after

-- the last name of a full list is one of it
last_listed : (names : List Text) (last : Text) → 0 < length names → slice_get names (length names - 1) ≡ Some last → Contains names last
last_listed names last some at = (length names - 1, omega (arith, some), get_or_from_slice_get names (length names - 1) last last at)

-- a walk passes no name that it had not to
still_passed : (prefixes : List Text) (prefix : Text) (start now : WalkPlace) (most : ℕ) (names : List Text) → Lists prefixes prefix start now most names → (name : Text) → is_passed prefixes start name ≡ true → is_passed prefixes now name ≡ true
still_passed prefixes prefix start now most names l name passed =
    now_as prefixes prefix start now most names l name
    (⊎_elim (λ a. inl a) (λ w. inr (
      w.0,
      λ full. ⊎_elim
          (λ next. absurd (omega (arith, next.0, full)))
          (λ same.
          let some : 0 < length names = omega (arith, l.some, full) in
          let front = less_from_test _ (later start.last now.last names l.listing.rising (last_listed names now.last some same.2)) in
          ⊎_elim (λ less. absurd (true≢false (sym (ap is_lt (nat_list_cmp_total.trans start.last now.last name front (less_from_test _ less))) ∙ w.1))) (λ not_less. not_less) (cases_Bool (is_lt (by_name now.last name)))) l.after,
    ))
    (passed_is prefixes prefix start name l.lt l.at passed))

-- ---- how many are to look at

to_look : (b p : Bool) → b ≡ true → p ≡ false → b && not p ≡ true
to_look true false e f = refl
to_look true true e f = absurd (true≢false f)
to_look false p e f = absurd (true≢false (sym e))

looked : (b p : Bool) → p ≡ true → b && not p ≡ false
looked true true e = refl
looked false true e = refl
looked b false e = absurd (true≢false (sym e))

begun : (b p q : Bool) → b && not q ≡ true → (p ≡ true → q ≡ true) → b && not p ≡ true
begun true true true e mono = e
begun true true false e mono = absurd (true≢false (sym (mono refl)))
begun true false q e mono = refl
begun false p q e mono = e

was_ahead : (prefixes : List Text) (prefix : Text) (start now : WalkPlace) (most : ℕ) (names : List Text) → AreNamesApart prefixes → Lists prefixes prefix start now most names → (name : Text) → Contains names name
    → (is_to_look_at prefixes (Some start) name ≡ true) × (is_to_look_at prefixes (Some now) name ≡ false)
was_ahead prefixes prefix start now most names apart l name has =
    let begins = All-contains (λ n. IsTrue (has_prefix prefix n)) names name l.listing.prefixed has in
    let less = later start.last name names l.listing.rising has in
    let front = apart start.prefix prefix name l.at begins in
    let none : is_passed prefixes start name ≡ false = ⊎_elim
    (λ passed. absurd (⊎_elim (λ a. true≢false (sym a ∙ front)) (λ w. true≢false (sym less ∙ w.1)) (passed_is prefixes prefix start name l.lt l.at passed)))
    (λ e. e) (cases_Bool (is_passed prefixes start name)) in
    let past = now_as prefixes prefix start now most names l name (inr (
      begins,
      λ full. ⊎_elim
          (λ next. absurd (omega (arith, next.0, full)))
          (λ same. not_after_last names now.last name (rest_rises start.last names l.listing.rising) same.2 has) l.after,
    )) in
    (to_look _ _ (begins_some prefixes start.prefix prefix name l.lt l.at begins) none, looked (begins_with_any prefixes name) _ past)

-- ---- the files of names that the walk goes past

-- no file is passed over by a list that came to its name
abbrev pub NothingIsPassedOver : Type 0
NothingIsPassedOver = (files : Files) (prefix after name : Text) (most : ℕ) (names : List Text) → names ≡ take most (names_after files prefix after) → IsNameAfter files prefix after name → HasReached names most name → Contains names name

has_none : {A : Type 0} (o : Option A) → (o ≡ None) ⊎ (o ≢ None)
has_none None = inl refl
has_none (Some a) = inr (λ e. true≢false (ap is_some e))

not_less : (o : Ordering) → is_lt o ≡ false → o ≢ Less
not_less o e less = true≢false (sym (ap is_lt less) ∙ e)

reaches : (prefixes : List Text) (prefix : Text) (start now : WalkPlace) (most : ℕ) (names : List Text) → Lists prefixes prefix start now most names → (name : Text) → Reached now most names name → HasReached names most name
reaches prefixes prefix start now most names l name reached = ⊎_elim (λ room. inr room)
    (λ past. ⊎_elim (λ next. inr next.0)
    (λ same. inl (now.last, last_listed names now.last (omega (arith, l.some, same.0)) same.2, not_less _ past)) l.after) reached

gone_or_passed : (prefixes : List Text) (prefix : Text) (start now : WalkPlace) (most : ℕ) (names : List Text) → NothingIsPassedOver → Lists prefixes prefix start now most names → (old new : Files)
    → names ≡ take most (names_after old prefix start.last) → TakesFiles (IsPageAmong names) (length names) old new → AreGone names new → (name : Text) → is_page_file name ≡ true → is_passed prefixes now name ≡ true
    → (is_passed prefixes start name ≡ true) ⊎ (file_at new name ≡ None)
gone_or_passed prefixes prefix start now most names over l old new is takes gone name page passed = ⊎_elim
    (λ a. inl (is_passed_as prefixes prefix start name l.lt l.at (inl a)))
    (λ w. ⊎_elim
    (λ less. inr (⊎_elim
    (λ none. stays_gone (IsPageAmong names) (length names) old new name takes none)
    (λ some. gone name (over old prefix start.last name most names is (w.0, less_from_test _ less, some) (reaches prefixes prefix start now most names l name w.1), page)) (has_none (file_at old name))))
    (λ past. inl (is_passed_as prefixes prefix start name l.lt l.at (inr (w.0, past)))) (cases_Bool (is_lt (by_name start.last name))))
    (now_is prefixes prefix start now most names l name (λ begins none. no_first name page none) passed)

-- ---- the list gives each name that the walk goes past

-- An empty prefix stands alone: each other name begins with it, and so the prefix before it.
not_first : (prefixes : List Text) (n : ℕ) (prefix name : Text) → AreNamesApart prefixes → n < length prefixes → slice_get prefixes n ≡ Some prefix → IsNotFirst prefixes (n + 1) name
not_first prefixes n prefix (b ∷ name) apart lt at begins none = true≢false none
not_first prefixes n prefix [] apart lt at begins none = ⊎_elim
    (λ end. true≢false (sym begins ∙ ap (λ (ps : List Text). begins_with_any (take 1 ps) []) (drop_all (n + 1) prefixes (omega (arith, end)))))
    (λ less.
    let next = get_or prefixes (n + 1) [] in
    let empty = no_bytes next (sym (or_false (has_prefix next [])) ∙ sym (ap (λ (ps : List Text). begins_with_any (take 1 ps) []) (drop_more prefixes (n + 1) [] less)) ∙ begins) in
    let behind = apart (n + 1) next prefix (slice_get-get_or prefixes (n + 1) [] less) (ap (λ p. has_prefix p prefix) empty) in
    true≢false (sym (goes_past prefixes n prefix prefix lt at ∙ or_right (begins_with_any (take n prefixes) prefix) _ (is_begun prefix prefix [] (sym (append-nil prefix)))) ∙ behind))
    (eq-or-lt_of_le (omega (arith, lt)))

was_passed : (b p : Bool) → b ≡ true → b && not p ≡ false → p ≡ true
was_passed true true e f = refl
was_passed true false e f = sym f
was_passed false p e f = absurd (true≢false (sym e))

is_listed : (prefixes : List Text) (prefix : Text) (start now : WalkPlace) (most : ℕ) (names : List Text) → NothingIsPassedOver → AreNamesApart prefixes → Lists prefixes prefix start now most names → (old : Files)
    → names ≡ take most (names_after old prefix start.last) → (name : Text) → is_to_look_at prefixes (Some start) name ≡ true → is_to_look_at prefixes (Some now) name ≡ false → file_at old name ≢ None → Contains names name
is_listed prefixes prefix start now most names over apart l old is name ahead behind held =
    let was = and_parts (begins_with_any prefixes name) (not (is_passed prefixes start name)) ahead in
    let unpassed = not-true (is_passed prefixes start name) was.1 in
    ⊎_elim
    (λ a. absurd (true≢false (sym (is_passed_as prefixes prefix start name l.lt l.at (inl a)) ∙ unpassed)))
    (λ w. ⊎_elim
    (λ less. over old prefix start.last name most names is (w.0, less_from_test _ less, held) (reaches prefixes prefix start now most names l name w.1))
    (λ past. absurd (true≢false (sym (is_passed_as prefixes prefix start name l.lt l.at (inr (w.0, past))) ∙ unpassed))) (cases_Bool (is_lt (by_name start.last name))))
    (now_is prefixes prefix start now most names l name (not_first prefixes start.prefix prefix name apart l.lt l.at) (was_passed (begins_with_any prefixes name) (is_passed prefixes now name) was.0 behind))

-- ---- the walk past a list

pub listed_pages : (prefixes : List Text) (n : ℕ) (prefix after : Text) (most few : ℕ) (names : List Text) → n < length prefixes → slice_get prefixes n ≡ Some prefix → IsListing prefix after most names → length names ≤ few → (old new : Files)
    → TakesFiles (IsPageAmong names) (length names) old new → TakesFiles (IsListedPage prefixes) few old new
listed_pages prefixes n prefix after most few names lt at listing le old new takes =
    takes_as (IsPageAmong names) (IsListedPage prefixes) (length names) few old new le (λ name is. (is.1, begins_some prefixes n prefix name lt at (All-contains (λ x. IsTrue (has_prefix prefix x)) names name listing.prefixed is.0))) takes

pub walk_list : (prefixes : List Text) (prefix : Text) (start now : WalkPlace) (most : ℕ) (names : List Text) → NothingIsPassedOver → AreNamesApart prefixes → start.prefix < length prefixes → slice_get prefixes start.prefix ≡ Some prefix
    → IsListing prefix start.last most names → 0 < most → IsPlaceAfter start names most now → (old new : Files) → names ≡ take most (names_after old prefix start.last) → TakesFiles (IsPageAmong names) (length names) old new → AreGone names new
    → Walked prefixes start now (length names) old new
walk_list prefixes prefix start now most names over apart lt at listing some after old new is takes gone =
    let l : Lists prefixes prefix start now most names = record { lt = lt; at = at; listing = listing; some = some; after = after } in
    let p = is_to_look_at prefixes (Some start) in
    let q = is_to_look_at prefixes (Some now) in
    let seen = counted (λ name. has_prefix prefix name && is_lt (by_name start.last name)) p q most (keys old)
    (λ name e. begun (begins_with_any prefixes name) _ _ e (still_passed prefixes prefix start now most names l name))
    (λ name has. was_ahead prefixes prefix start now most names apart l name (subst (λ (ns : List Text). Contains ns name) (sym is) has)) in
    let fewer = takes.names q in
    let long = ap length is in
    let parts = count_parts p q old in
    let ahead = count_within (λ name. p name && q name) q old new (λ name both held.
    let still = (and_parts (p name) (q name) both).1 in
    (still, stays_there (IsPageAmong names) (length names) old new name takes (λ page. true≢false (sym still ∙ (was_ahead prefixes prefix start now most names apart l name page.0).1)) held)) in
    let listed = count_listed (λ name. p name && not (q name)) old names (λ name both held.
    let w = and_parts (p name) (not (q name)) both in is_listed prefixes prefix start now most names over apart l old is name w.0 (not-true (q name) w.1) held) in
    record {
      takes = listed_pages prefixes start.prefix prefix start.last most (length names) names lt at listing (omega arith) old new takes;
      passed = gone_or_passed prefixes prefix start now most names over l old new is takes gone;
      ahead = omega (arith, seen, fewer, long, parts, ahead, listed);
    }

pub walked_then : (prefixes : List Text) (p q r : WalkPlace) (m n : ℕ) (a b c : Files) → Walked prefixes p q m a b → Walked prefixes q r n b c → Walked prefixes p r (m + n) a c
walked_then prefixes p q r m n a b c first then = record {
  takes = takes_then (IsListedPage prefixes) m n a b c first.takes then.takes;
  passed = λ name page passed. ⊎_elim (λ e. ⊎_elim (λ d. inl d) (λ none. inr (stays_gone (IsListedPage prefixes) n b c name then.takes none)) (first.passed name page e)) (λ none. inr none) (then.passed name page passed);
  ahead = (let one = first.ahead in let two = then.ahead in omega (arith, one, two));
}

pub walked_none : (prefixes : List Text) (p : WalkPlace) (files : Files) → Walked prefixes p p 0 files files
walked_none prefixes p files = record { takes = takes_none (IsListedPage prefixes) 0 files; passed = λ name page passed. inl passed; ahead = omega arith }
