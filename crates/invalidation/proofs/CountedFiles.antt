-- How many names of files pass a test, told by which these are.
use Rattle.std.proofs.Common.{◌≡◌, ◌≢◌, ◌≤◌, ◌+◌, Bool, true, false, cond, not, ◌&&◌, List, [], ◌∷◌, None, length, refl, sym, ◌∙◌, ap, arith}
use Rattle.std.specs.Prelude.{Contains, is_some}
use Rattle.std.specs.Cmp.{eq_by_cmp_equiv}
use Rattle.std.specs.Cmp.Lexicographic.{nat_list_cmp_total}
use Rattle.std.specs.FinMap.{contains_key-keys, entries, entries_sorted, keys}
use Rattle.std.specs.List.{IsDistinct, filter}
use Rattle.std.specs.Ordering.{eq_by_cmp}
use Rattle.std.specs.Set.{is_member}
use Rattle.std.proofs.lemmas.List.Kept.{IsStrictlySortedBy-filter}
use Rattle.std.proofs.lemmas.Map.Keys.{IsDistinct-from_sorted}
use Rattle.std.proofs.lemmas.Map.Made.{is_member-filter, length-le_from_is_member}
use Rattle.std.proofs.lemmas.Map.Views.{list_any-from_Contains}
use Rattle.sp_base.specs.Names.{by_name}
use Rattle.sp_base.specs.Texts.{Text}
use Rattle.sp_base.proofs.BoolLemmas.{and_first, and_second}
use Rattle.sp_base.proofs.OptionLemmas.{test_from_there, there_from_test}
use Rattle.sp_base.proofs.OrderingLemmas.{equal_from_test}
use Rattle.sp_outside.specs.Files.{Files, file_at}
use Rattle.sp_outside.proofs.HeldNames.{same_name}
use Rattle.sp_outside.proofs.Listing.{rises}
use Rattle.docroot_changes.specs.Changes.{count_names}

-- two names are the same
abbrev is_same : Text → Text → Bool
is_same = eq_by_cmp by_name

-- the names of the files that pass a test
abbrev passing : (Text → Bool) → Files → List Text
passing test files = filter test (keys files)

apart : (test : Text → Bool) (files : Files) → IsDistinct is_same (passing test files)
apart test files = IsDistinct-from_sorted by_name (passing test files) (IsStrictlySortedBy-filter by_name test (keys files) (rises (entries files) (entries_sorted files)))

-- a name passes and has a file
member : (test : Text → Bool) (files : Files) (name : Text) → is_member is_same (passing test files) name ≡ (is_some (file_at files name) && test name)
member test files name =
    is_member-filter (eq_by_cmp_equiv nat_list_cmp_total) test name (λ x same. ap test (same_name name x (equal_from_test (by_name name x) same))) (keys files)
    ∙ ap (λ b. b && test name) (sym (contains_key-keys files name))

passes : (test : Text → Bool) (files : Files) (name : Text) → is_member is_same (passing test files) name ≡ true → (test name ≡ true) × (file_at files name ≢ None)
passes test files name is =
    let both = sym (member test files name) ∙ is in
    (and_second (is_some (file_at files name)) (test name) both, there_from_test (file_at files name) (and_first (is_some (file_at files name)) (test name) both))

is_passing : (test : Text → Bool) (files : Files) (name : Text) → test name ≡ true → file_at files name ≢ None → is_member is_same (passing test files) name ≡ true
is_passing test files name is held = member test files name ∙ ap (λ b. b && test name) (test_from_there (file_at files name) held) ∙ is

-- where each name that passes one test passes the other, among other files
pub count_within : (t u : Text → Bool) (a b : Files) → ((name : Text) → t name ≡ true → file_at a name ≢ None → (u name ≡ true) × (file_at b name ≢ None)) → count_names t a ≤ count_names u b
count_within t u a b all =
    length-le_from_is_member (eq_by_cmp_equiv nat_list_cmp_total) (passing t a) (passing u b) (apart t a)
    (λ name is. let w = passes t a name is in let v = all name w.0 w.1 in is_passing u b name v.0 v.1)

-- where each name that passes is one of a list
pub count_listed : (t : Text → Bool) (files : Files) (names : List Text) → ((name : Text) → t name ≡ true → file_at files name ≢ None → Contains names name) → count_names t files ≤ length names
count_listed t files names all =
    length-le_from_is_member (eq_by_cmp_equiv nat_list_cmp_total) (passing t files) names (apart t files)
    (λ name is. let w = passes t files name is in list_any-from_Contains (eq_by_cmp_equiv nat_list_cmp_total) name names (all name w.0 w.1))

none_within : (names : List Text) → length (filter (λ name. false) names) ≡ 0
none_within [] = refl
none_within (name ∷ names) = none_within names

-- where no name that passes has a file
pub count_none : (t : Text → Bool) (files : Files) → ((name : Text) → t name ≡ true → file_at files name ≢ None → ⊥) → count_names t files ≡ 0
count_none t files none =
    let few = count_listed t files [] (λ name is held. absurd (none name is held)) in omega (arith, few)

parts : (p q : Bool) (name : Text) (xs ys zs : List Text) → length xs ≡ length ys + length zs → length (cond p (name ∷ xs) xs) ≡ length (cond (p && q) (name ∷ ys) ys) + length (cond (p && not q) (name ∷ zs) zs)
parts true true name xs ys zs e = omega (arith, e)
parts true false name xs ys zs e = omega (arith, e)
parts false q name xs ys zs e = e

-- the names that pass one test are those that pass another too, and those that don't
split : (t u : Text → Bool) (names : List Text) → length (filter t names) ≡ length (filter (λ name. t name && u name) names) + length (filter (λ name. t name && not (u name)) names)
split t u [] = refl
split t u (name ∷ names) = parts (t name) (u name) name (filter t names) (filter (λ n. t n && u n) names) (filter (λ n. t n && not (u n)) names) (split t u names)

pub count_parts : (t u : Text → Bool) (files : Files) → count_names t files ≡ count_names (λ name. t name && u name) files + count_names (λ name. t name && not (u name)) files
count_parts t u files = split t u (keys files)
