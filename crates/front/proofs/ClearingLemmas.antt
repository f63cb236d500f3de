-- Files that are cleared away.
use Rattle.std.proofs.Common.{◌≡◌, ◌≢◌, ◌≤◌, ◌<◌, ◌-◌, ◌+◌, ◌||◌, ◌++◌, ◌⊎◌, ◌∙◌, inl, inr, ⊎_elim, ℕ, Bool, true, false, cond, take, List, [], ◌∷◌, Option, Some, None, Result, Ok, Err, get_or, length, refl, sym, ap, subst, arith}
use Rattle.std.specs.Prelude.{Contains, IfErr, IfSome, IsTrue, OnOk, slice_get}
use Rattle.std.specs.Cmp.Lexicographic.{nat_list_cmp_total}
use Rattle.std.specs.FinMap.{contains_key, entries, get-remove, keys, len, len-entries, len-remove, nat_cmp-IsAntisymmetric, slice_cmp-IsAntisymmetric}
use Rattle.std.specs.Ordering.{eq_by_cmp}
use Rattle.std.specs.declared.cmp.Ordering.{Ordering}
use Rattle.std.specs.declared.cmp.Ordering.TheVariants.{Less, Equal, Greater}
use Rattle.std.proofs.lemmas.Bool.{or_left, or_right}
use Rattle.std.proofs.lemmas.Option.{get_or_from_slice_get, slice_get_cases, slice_get_within}
use Rattle.std.proofs.lemmas.List.{length-map, take_more}
use Rattle.sp_base.specs.Names.{by_name}
use Rattle.sp_base.specs.Texts.{Text}
use Rattle.sp_base.proofs.ListLemmas.{last_or_before}
use Rattle.sp_base.proofs.OrderingLemmas.{equal_from_test}
use Rattle.sp_outside.specs.Calls.{Remove}
use Rattle.sp_outside.specs.FileNames.{HasReached, IsNameAfter, names_left}
use Rattle.sp_outside.specs.Files.{Files, IsListing, IsName, IsOldOrNew, file_at, told_without, without_file}
use Rattle.sp_outside.specs.declared.disk.DiskFault.{DiskFault}
use Rattle.docroot_format.specs.Names.{epoch_name, is_page_file, is_stat_file}
use Rattle.docroot_changes.specs.Changes.{Told}
use Rattle.docroot_changes.specs.DocrootCalls.{IsDocrootCall}
use Rattle.coherence_core.specs.Holds.{files_counted}
use Rattle.coherence_core.specs.Openings.{IsCleared}
use Rattle.front.specs.Clearings.{ClearsFiles, ClearsPagesFirst, HasNoFile, HasNoneAmong, HasNoneBetween, HasNoneUpTo, IsNearer, IsClearedTo, is_of_cache, is_page_or_stamp}
use Rattle.front.specs.declared.clearing.CacheFile.{CacheFile}
use Rattle.front.specs.declared.clearing.CacheFile.TheVariants.{Page, Stamp}

-- ---- relations of files that a disk tells
abbrev pub Relation : Type 1
Relation = Files → Files → Type 0

pub told-then : (P Q R : Relation) (x y z : Option Files) → ((a b c : Files) → P a b → Q b c → R a c) → Told P x y → Told Q y z → Told R x z
told-then P Q R None y z all p q = subst (λ t. Told Q t z) p q
told-then P Q R (Some a) None z all p q = absurd p
told-then P Q R (Some a) (Some b) None all p q = q
told-then P Q R (Some a) (Some b) (Some c) all p q = all a b c p q

pub told-both : (P Q R : Relation) (x y : Option Files) → ((a b : Files) → P a b → Q a b → R a b) → Told P x y → Told Q x y → Told R x y
told-both P Q R None y all p q = p
told-both P Q R (Some a) None all p q = p
told-both P Q R (Some a) (Some b) all p q = all a b p q

pub told-as : (P Q : Relation) (x y : Option Files) → ((a b : Files) → P a b → Q a b) → Told P x y → Told Q x y
told-as P Q None y all p = p
told-as P Q (Some a) None all p = p
told-as P Q (Some a) (Some b) all p = all a b p

pub told-same : (P : Relation) (x y : Option Files) → ((a : Files) → P a a) → y ≡ x → Told P x y
told-same P None y all e = e
told-same P (Some a) y all e = subst (Told P (Some a)) (sym e) (all a)

-- what is known of the files before a call
pub told-known : (V : Files → Type 0) (P Q : Relation) (x y : Option Files) → ((a b : Files) → V a → P a b → Q a b) → IfSome x V → Told P x y → Told Q x y
told-known V P Q None y all v p = p
told-known V P Q (Some a) None all v p = p
told-known V P Q (Some a) (Some b) all v p = all a b v p

made : (P : Relation) (name : Text) (x y : Option Files) → ((files : Files) → P files (without_file files name)) → y ≡ told_without x name → Told P x y
made P name None y all e = e
made P name (Some a) y all e = subst (Told P (Some a)) (sym e) (all a)

-- a removal, whatever the disk answered
pub told-removed : {T : Type 0} (r : Result T DiskFault) (P : Relation) (name : Text) (x y : Option Files) → ((files : Files) → P files files) → ((files : Files) → P files (without_file files name)) → OnOk r (y ≡ told_without x name) → IfErr r (IsOldOrNew x (told_without x name) y) → Told P x y
told-removed (Ok t) P name x y stays goes ok err = made P name x y goes ok
told-removed (Err fault) P name x y stays goes ok err = ⊎_elim (λ same. told-same P x y stays same) (λ gone. made P name x y goes gone.1) err

-- ---- what is cleared away
pub clears-none : (is_gone : Text → Bool) (files : Files) → ClearsFiles is_gone files files
clears-none is_gone files = record { each = λ name. inl refl; fewer = omega arith }

pub clears-then : (is_gone : Text → Bool) (a b c : Files) → ClearsFiles is_gone a b → ClearsFiles is_gone b c → ClearsFiles is_gone a c
clears-then is_gone a b c first then = record {
  each = λ name. ⊎_elim (λ e. ⊎_elim (λ d. inl (e ∙ d)) (λ w. inr (w.0, e ∙ w.1)) (first.each name)) (λ w. inr w) (then.each name);
  fewer = (let one = first.fewer in let two = then.fewer in omega (arith, one, two));
}

pub clears-more : (P Q : Text → Bool) (a b : Files) → ((name : Text) → IsTrue (P name) → IsTrue (Q name)) → ClearsFiles P a b → ClearsFiles Q a b
clears-more P Q a b all clears = record { each = λ name. ⊎_elim (λ e. inl e) (λ w. inr (all name w.0, w.1)) (clears.each name); fewer = clears.fewer }

pub stays-gone : (is_gone : Text → Bool) (a b : Files) (name : Text) → ClearsFiles is_gone a b → file_at a name ≡ None → file_at b name ≡ None
stays-gone is_gone a b name clears none = ⊎_elim (λ e. e ∙ none) (λ w. w.1) (clears.each name)

fewer-one : (b : Bool) (n m : ℕ) → m ≡ cond b (n - 1) n → m ≤ n
fewer-one true n m e = omega (arith, e)
fewer-one false n m e = omega (arith, e)

fewer-files : (files : Files) (name : Text) → files_counted (without_file files name) ≤ files_counted files
fewer-files files name =
    let new = without_file files name in
    let old_size : length (keys files) ≡ len files = length-map (entries files) (λ e. e.0) ∙ sym (len-entries files) in
    let new_size : length (keys new) ≡ len new = length-map (entries new) (λ e. e.0) ∙ sym (len-entries new) in
    let less = fewer-one (contains_key files name) (len files) (len new) (len-remove nat_list_cmp_total files name) in
    omega (arith, old_size, new_size, less)

-- a name is that of the file that went, or its file is as it was
same-or-beside : (files : Files) (name other : Text) → (other ≡ name) ⊎ (file_at (without_file files name) other ≡ file_at files other)
same-or-beside files name other = by_test (eq_by_cmp by_name other name) refl
  where
    by_test : (b : Bool) → eq_by_cmp by_name other name ≡ b → (other ≡ name) ⊎ (file_at (without_file files name) other ≡ file_at files other)
    by_test true e = inl (slice_cmp-IsAntisymmetric nat_cmp-IsAntisymmetric other name (equal_from_test (by_name other name) e))
    by_test false e = inr (get-remove nat_list_cmp_total files name other ∙ ap (λ b. cond b None (file_at files other)) e)

pub clears-one : (is_gone : Text → Bool) (files : Files) (name : Text) → IsTrue (is_gone name) → file_at (without_file files name) name ≡ None → ClearsFiles is_gone files (without_file files name)
clears-one is_gone files name is gone = record {
  each = λ other. ⊎_elim (λ same. inr (subst (λ x. IsTrue (is_gone x)) (sym same) is, subst (λ x. file_at (without_file files name) x ≡ None) (sym same) gone)) (λ e. inl e) (same-or-beside files name other);
  fewer = fewer-files files name;
}

-- ---- which calls
pub cache_file-call : (cache_file : CacheFile) (name : Text) (answered : Bool) → IsTrue (is_of_cache cache_file name) → IsDocrootCall (Remove name answered)
cache_file-call Page name answered is = inl is
cache_file-call Stamp name answered is = inr is

-- ---- names gone through one after the other
-- the files of this kind among the first names are gone, and only files of this kind went
pub record ClearsTo (cache_file : CacheFile) (names : List Text) (seen : ℕ) (old new : Files) : Type 0 where
  pub clears : ClearsFiles (is_of_cache cache_file) old new
  pub none : HasNoneAmong cache_file (take seen names) new

pub clears-to-none : (cache_file : CacheFile) (names : List Text) (files : Files) → ClearsTo cache_file names 0 files files
clears-to-none cache_file names files = record { clears = clears-none (is_of_cache cache_file) files; none = λ name has. absurd (omega (arith, has.1)) }

pub clears-to-more : (cache_file : CacheFile) (names : List Text) (i : ℕ) (name : Text) → i < length names → get_or names i name ≡ name → (a b c : Files) → ClearsTo cache_file names i a b → ClearsFiles (is_of_cache cache_file) b c × (IsTrue (is_of_cache cache_file name) → file_at c name ≡ None) → ClearsTo cache_file names (i + 1) a c
clears-to-more cache_file names i name lt at a b c first then = record {
  clears = clears-then (is_of_cache cache_file) a b c first.clears then.0;
  none = λ other has is. ⊎_elim
      (λ before. stays-gone (is_of_cache cache_file) b c other then.0 (first.none other before is))
      (λ same. subst (λ n. file_at c n ≡ None) (sym same) (then.1 (subst (λ n. IsTrue (is_of_cache cache_file n)) same is)))
      (last_or_before (take i names) name other (subst (λ (l : List Text). Contains l other) (take_more names i name lt ∙ ap (λ n. take i names ++ n ∷ []) at) has));
}

-- ---- one list
-- the files of this kind are gone that the list came to
pub cleared-between : (cache_file : CacheFile) (last : Text) (next : Option Text) (most : ℕ) (names : List Text) (a b : Files)
    → ((name : Text) → IsNameAfter a [] last name → HasReached names most name → Contains names name)
    → ((name : Text) → IsClearedTo next name → HasReached names most name) → ClearsFiles (is_of_cache cache_file) a b × HasNoneAmong cache_file names b → HasNoneBetween cache_file last next b
cleared-between cache_file last next most names a b contains reached left name is after here = by_file (file_at a name) refl
  where
    by_file : (o : Option Text) → file_at a name ≡ o → file_at b name ≡ None
    by_file None e = stays-gone (is_of_cache cache_file) a b name left.0 e
    by_file (Some bytes) e = left.1 name (contains name (refl, after, λ none. absurd (let no : None ≡ Some bytes = sym none ∙ e in cc no)) (reached name here)) is

-- ---- lists one after another
less-or-not : (o : Ordering) → (o ≡ Less) ⊎ (o ≢ Less)
less-or-not Less = inl refl
less-or-not Equal = inr (λ e. absurd (cc e))
less-or-not Greater = inr (λ e. absurd (cc e))

-- up to a name, and then up to the next
pub record ClearsUpTo (cache_file : CacheFile) (last : Text) (old new : Files) : Type 0 where
  pub clears : ClearsFiles (is_of_cache cache_file) old new
  pub none : HasNoneUpTo cache_file last new

pub up-to-next : (cache_file : CacheFile) (last next : Text) (a b c : Files) → ClearsUpTo cache_file last a b → ClearsFiles (is_of_cache cache_file) b c × HasNoneBetween cache_file last (Some next) c → ClearsUpTo cache_file next a c
up-to-next cache_file last next a b c so_far one = record {
  clears = clears-then (is_of_cache cache_file) a b c so_far.clears one.0;
  none = λ name is up_to. ⊎_elim (λ after. one.1 name is after up_to) (λ before. stays-gone (is_of_cache cache_file) b c name one.0 (so_far.none name is before)) (less-or-not (by_name last name));
}

pub up-to-end : (cache_file : CacheFile) (last : Text) (a b c : Files) → ClearsUpTo cache_file last a b → ClearsFiles (is_of_cache cache_file) b c × HasNoneBetween cache_file last None c → ClearsFiles (is_of_cache cache_file) a c × HasNoFile cache_file c
up-to-end cache_file last a b c so_far one =
    (clears-then (is_of_cache cache_file) a b c so_far.clears one.0, λ name is. ⊎_elim (λ after. one.1 name is after tt) (λ before. stays-gone (is_of_cache cache_file) b c name one.0 (so_far.none name is before)) (less-or-not (by_name last name)))

-- no name of this kind is empty
named : (cache_file : CacheFile) → is_of_cache cache_file [] ≡ false
named Page = refl
named Stamp = refl

pub up-to-none : (cache_file : CacheFile) (files : Files) → ClearsUpTo cache_file [] files files
up-to-none cache_file files = record { clears = clears-none (is_of_cache cache_file) files; none = λ name is before. none name is before }
  where
    none : (name : Text) → IsTrue (is_of_cache cache_file name) → by_name [] name ≢ Less → file_at files name ≡ None
    none [] is before = absurd (let no : true ≡ false = sym is ∙ named cache_file in cc no)
    none (b ∷ name) is before = absurd (before refl)

-- ---- both kinds
pub clears-either : (cache_file : CacheFile) (a b : Files) → ClearsFiles (is_of_cache cache_file) a b → ClearsFiles is_page_or_stamp a b
clears-either Page a b clears = clears-more is_page_file is_page_or_stamp a b (λ name is. or_left (is_page_file name) (is_stat_file name) is) clears
clears-either Stamp a b clears = clears-more is_stat_file is_page_or_stamp a b (λ name is. or_right (is_page_file name) (is_stat_file name) is) clears

pub record ClearsAll (old new : Files) : Type 0 where
  pub clears : ClearsFiles is_page_or_stamp old new
  pub none : IsCleared new

pub clears-all : (a b c : Files) → ClearsFiles (is_of_cache Page) a b × HasNoFile Page b → ClearsFiles (is_of_cache Stamp) b c × HasNoFile Stamp c → ClearsAll a c
clears-all a b c first then = record {
  clears = clears-then is_page_or_stamp a b c (clears-either Page a b first.0) (clears-either Stamp b c then.0);
  none = record { pages = λ name is. stays-gone (is_of_cache Stamp) b c name then.0 (first.1 name is); stats = λ name is. then.1 name is };
}

-- only page files went: each .stat file is as it was
pub pages-first : ((name : Text) → IsTrue (is_page_file name) → is_stat_file name ≡ false) → (a b : Files) → ClearsFiles (is_of_cache Page) a b → ClearsPagesFirst a b
pages-first apart a b clears = inl (λ name is. ⊎_elim (λ e. e) (λ w. absurd (let no : true ≡ false = sym is ∙ apart name w.0 in cc no)) (clears.each name))

-- no page file was left, and then only .stat files went
pub pages-gone : (a b c : Files) → ClearsFiles (is_of_cache Page) a b × HasNoFile Page b → ClearsFiles (is_of_cache Stamp) b c → ClearsPagesFirst a c
pages-gone a b c first then = inr (λ name is. stays-gone (is_of_cache Stamp) b c name then (first.1 name is))

-- the number of the session is no file of these kinds
pub number-stays : (a b : Files) → is_page_file epoch_name ≡ false → is_stat_file epoch_name ≡ false → ClearsFiles is_page_or_stamp a b → file_at b epoch_name ≡ file_at a epoch_name
number-stays a b page stat clears = ⊎_elim (λ e. e) (λ w. absurd (either (is_page_file epoch_name) (is_stat_file epoch_name) page stat w.0)) (clears.each epoch_name)
  where
    either : (p s : Bool) → p ≡ false → s ≡ false → (p || s) ≡ true → ⊥
    either true s p_is s_is e = cc p_is
    either false true p_is s_is e = cc s_is
    either false false p_is s_is e = cc e

-- ---- the last of a list
pub listed : (names : List Text) (i : ℕ) (name : Text) → slice_get names i ≡ Some name → Contains names name
listed names i name at = (i, slice_get_within names i name at, get_or_from_slice_get names i name name at)

pub not-full : (names : List Text) (i : ℕ) → slice_get names i ≡ None → length names < i + 1
not-full names i none = ⊎_elim (λ one. absurd (let two : Some one.0 ≡ None = sym one.2 ∙ none in cc two)) (λ past. omega (arith, past.0)) (slice_get_cases names i).1

pub nearer : (last next : Text) (prefix : Text) (most : ℕ) (names : List Text) → IsListing prefix last most names → Contains names next → names_left next < names_left last → IsNearer last next
nearer last next prefix most names listing has fewer = record { fits = (subst IsName has.2 (listing.sizes has.0 next has.1)).1; fewer = fewer }
