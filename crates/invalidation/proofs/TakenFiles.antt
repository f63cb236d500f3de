-- Files that are taken away, and what that makes of the pages, the stamps and the number of the session.
use Rattle.std.proofs.Common.{◌≡◌, ◌≢◌, ◌≤◌, ◌+◌, ◌-◌, ◌⊎◌, inl, inr, ⊎_elim, ◌<◌, ℕ, Bool, true, false, cond, not, ◌++◌, take, List, [], ◌∷◌, Option, None, get_or, length, refl, sym, ◌∙◌, ap, subst, arith}
use Rattle.std.specs.Prelude.{IsTrue, Contains, IfErr, OnOk, Result}
use Rattle.std.specs.Cmp.Lexicographic.{nat_list_cmp_total}
use Rattle.std.specs.FinMap.{contains_key, entries, get-remove, keys, len, len-entries, len-remove}
use Rattle.std.specs.Ordering.{eq_by_cmp}
use Rattle.std.proofs.lemmas.List.{length-map, take_more}
use Rattle.std.proofs.lemmas.List.Filters.{length-filter_both}
use Rattle.sp_base.specs.Names.{by_name}
use Rattle.sp_base.specs.Texts.{Text}
use Rattle.sp_base.proofs.ListLemmas.{last_or_before}
use Rattle.sp_base.proofs.OrderingLemmas.{equal_from_test}
use Rattle.sp_outside.specs.Files.{Files, IsOldOrNew, file_at, told_without, without_file}
use Rattle.sp_outside.specs.declared.disk.DiskFault.{DiskFault}
use Rattle.docroot_format.specs.Names.{is_page_file}
use Rattle.sp_outside.proofs.HeldNames.{same_name}
use Rattle.docroot_changes.specs.Changes.{Told}
use Rattle.docroot_changes.proofs.ToldFiles.{told_made}
use Rattle.docroot_changes.proofs.CountedNames.{more_names, no_file, same_files}
use Rattle.invalidation.proofs.Chains.{either, told_same}
use Rattle.invalidation.specs.Slices.{LosesNames}
use Rattle.invalidation.specs.Walks.{IsPageAmong, IsThisPage, TakenTo, TakesFiles}

-- ---- how many fewer names there are

one_less : (b : Bool) (n m : ℕ) → m ≡ cond b (n - 1) n → n ≤ m + 1
one_less true n m e = omega (arith, e)
one_less false n m e = omega (arith, e)

-- as many names less than before as went, and no fewer of them are counted
pub loses_one : (files : Files) (name : Text) → LosesNames 1 files (without_file files name)
loses_one files name = λ test.
    let new = without_file files name in
    let other = λ (x : Text). not (test x) in
    let others = no_file files name other in
    let olds = length-filter_both test other (λ x. refl) (keys files) in
    let news = length-filter_both test other (λ x. refl) (keys new) in
    let old_size : length (keys files) ≡ len files = length-map (entries files) (λ e. e.0) ∙ sym (len-entries files) in
    let new_size : length (keys new) ≡ len new = length-map (entries new) (λ e. e.0) ∙ sym (len-entries new) in
    let less = one_less (contains_key files name) (len files) (len new) (len-remove nat_list_cmp_total files name) in
    omega (arith, others, olds, news, old_size, new_size, less)

-- ---- chains of removals

pub takes_none : (IsTaken : Text → Type 0) (most : ℕ) (files : Files) → TakesFiles IsTaken most files files
takes_none IsTaken most files = record { files = λ name. inl refl; names = same_files files 0; loses = λ test. omega arith }

pub takes_then : (IsTaken : Text → Type 0) (m n : ℕ) (a b c : Files) → TakesFiles IsTaken m a b → TakesFiles IsTaken n b c → TakesFiles IsTaken (m + n) a c
takes_then IsTaken m n a b c first then = record {
  files = λ name. ⊎_elim (λ e. ⊎_elim (λ d. inl (e ∙ d)) (λ w. inr (w.0, e ∙ w.1)) (first.files name)) (λ w. inr w) (then.files name);
  names = more_names 0 0 a b c first.names then.names;
  loses = λ test. (let one = first.loses test in let two = then.loses test in omega (arith, one, two));
}

pub takes_as : (One Other : Text → Type 0) (m n : ℕ) (a b : Files) → m ≤ n → ((name : Text) → One name → Other name) → TakesFiles One m a b → TakesFiles Other n a b
takes_as One Other m n a b le all takes = record {
  files = λ name. ⊎_elim (λ e. inl e) (λ w. inr (all name w.0, w.1)) (takes.files name);
  names = takes.names;
  loses = λ test. (let less = takes.loses test in omega (arith, less, le));
}

pub stays_gone : (IsTaken : Text → Type 0) (most : ℕ) (a b : Files) (name : Text) → TakesFiles IsTaken most a b → file_at a name ≡ None → file_at b name ≡ None
stays_gone IsTaken most a b name takes none = ⊎_elim (λ e. e ∙ none) (λ w. w.1) (takes.files name)

pub stays_there : (IsTaken : Text → Type 0) (most : ℕ) (a b : Files) (name : Text) → TakesFiles IsTaken most a b → (IsTaken name → ⊥) → file_at a name ≢ None → file_at b name ≢ None
stays_there IsTaken most a b name takes other held none = ⊎_elim (λ e. held (sym e ∙ none)) (λ w. other w.0) (takes.files name)

-- ---- one removal

removed : (IsTaken : Text → Type 0) (files : Files) (name other : Text) → IsTaken name → (b : Bool) → eq_by_cmp by_name other name ≡ b
    → (file_at (without_file files name) other ≡ file_at files other) ⊎ (IsTaken other × (file_at (without_file files name) other ≡ None))
removed IsTaken files name other is true e =
    inr (subst IsTaken (sym (same_name other name (equal_from_test (by_name other name) e))) is, get-remove nat_list_cmp_total files name other ∙ ap (λ b. cond b None (file_at files other)) e)
removed IsTaken files name other is false e = inl (get-remove nat_list_cmp_total files name other ∙ ap (λ b. cond b None (file_at files other)) e)

pub takes_one : (IsTaken : Text → Type 0) (files : Files) (name : Text) → IsTaken name → TakesFiles IsTaken 1 files (without_file files name)
takes_one IsTaken files name is = record { files = λ other. removed IsTaken files name other is (eq_by_cmp by_name other name) refl; names = no_file files name; loses = loses_one files name }

-- a removal, whatever the disk answered
pub told_removed : {T : Type 0} (r : Result T DiskFault) (IsTaken : Text → Type 0) (name : Text) (x y : Option Files) → IsTaken name → OnOk r (y ≡ told_without x name) → IfErr r (IsOldOrNew x (told_without x name) y) → Told (TakesFiles IsTaken 1) x y
told_removed r IsTaken name x y is ok err =
    let made = told_made (TakesFiles IsTaken 1) (λ files. without_file files name) x y (λ files. takes_one IsTaken files name is) in
    either r (y ≡ told_without x name) (Told (TakesFiles IsTaken 1) x y) (IsOldOrNew x (told_without x name) y) made
    (λ fault left. ⊎_elim (λ same. told_same (TakesFiles IsTaken 1) x y (takes_none IsTaken 1) same) (λ w. made w.1) left) ok err

-- ---- names gone through one after the other

pub taken_more : (names : List Text) (i : ℕ) (name : Text) → i < length names → get_or names i name ≡ name → (a b c : Files) → TakenTo names i a b → TakesFiles (IsThisPage name) 1 b c × (IsTrue (is_page_file name) → file_at c name ≡ None)
    → TakenTo names (i + 1) a c
taken_more names i name lt at a b c first then =
    let one = takes_as (IsThisPage name) (IsPageAmong names) 1 1 b c (omega arith) (λ other is. ((i, lt, ap (get_or names i) is.0 ∙ at ∙ sym is.0), subst (λ n. IsTrue (is_page_file n)) (sym is.0) is.1)) then.0 in
    record {
      takes = takes_then (IsPageAmong names) i 1 a b c first.takes one;
      gone = λ other is. ⊎_elim
          (λ before. stays_gone (IsPageAmong names) 1 b c other one (first.gone other (before, is.1)))
          (λ same. subst (λ n. file_at c n ≡ None) (sym same) (then.1 (subst (λ n. IsTrue (is_page_file n)) same is.1)))
          (last_or_before (take i names) name other (subst (λ (l : List Text). Contains l other) (take_more names i name lt ∙ ap (λ n. take i names ++ n ∷ []) at) is.0));
    }

pub taken_none : (names : List Text) (files : Files) → TakenTo names 0 files files
taken_none names files = record { takes = takes_none (IsPageAmong names) 0 files; gone = λ name is. absurd (omega (arith, is.0.1)) }
