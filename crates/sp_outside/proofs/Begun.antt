-- With which files a disk begins: what the removal of those that were found makes of the files below a folder.
use Rattle.std.proofs.Common.{◌≡◌, ◌≢◌, ◌+◌, ◌<◌, ◌≤◌, ◌&&◌, not, ◌⊎◌, inl, inr, ℕ, zero, suc, Bool, true, false, cond, List, Option, Some, None, get_or, length, refl, sym, ◌∙◌, ap, subst, arith}
use Rattle.std.specs.Prelude.{IfSome, option_map}
use Rattle.std.specs.Cmp.Lexicographic.{nat_list_cmp_total}
use Rattle.std.specs.FinMap.{contains_key, empty, get, get-empty, get-insert, get-remove}
use Rattle.std.specs.Option.{is_some}
use Rattle.std.specs.Ordering.{eq_by_cmp}
use Rattle.std.proofs.lemmas.Bool.{false_from_ne_true, true≢false}
use Rattle.std.proofs.lemmas.List.{get_or_default}
use Rattle.sp_base.specs.Names.{by_name}
use Rattle.sp_base.proofs.BoolLemmas.{and_second}
use Rattle.sp_base.proofs.OptionLemmas.{none_from_test, there_from_test}
use Rattle.sp_outside.specs.FileNames.{is_below, is_beside, is_inside, is_left, is_own}
use Rattle.sp_outside.specs.Files.{Files, IsOldOrNew, file_at, told_with, told_without, without_file}
use Rattle.sp_outside.specs.FolderFiles.{IsNamesOf, WhileTold, boot_file, disk_files, files_begun, is_kept, is_same_boot, session_file}
use Rattle.sp_outside.specs.NameIndex.{IsRestKept, IsSameBut, IsTaken, IsTakenOrNot}
use Rattle.sp_outside.specs.declared.disk.DiskFault.{DiskFault}
use Rattle.sp_outside.proofs.DiskFiles.{inside_at, outside_at, same_files}
use Rattle.sp_outside.proofs.NameSets.{one_key, removed, removed_other}

-- ---- files that are told before and after

pub while_same : (P : Files → Files → Type 0) (old new : Option Files) → ((files : Files) → P files files) → new ≡ old → WhileTold P old new
while_same P None new itself same = subst (WhileTold P None) (sym same) tt
while_same P (Some files) new itself same = subst (WhileTold P (Some files)) (sym same) (itself files)

pub while_then : (P Q R : Files → Files → Type 0) (first next last : Option Files) → ((a b c : Files) → P a b → Q b c → R a c)
    → WhileTold P first next → WhileTold Q next last → WhileTold R first last
while_then P Q R None None None middle p q = tt
while_then P Q R None None (Some c) middle p q = absurd q
while_then P Q R None (Some b) last middle p q = absurd p
while_then P Q R (Some a) None last middle p q = absurd p
while_then P Q R (Some a) (Some b) None middle p q = absurd q
while_then P Q R (Some a) (Some b) (Some c) middle p q = middle a b c p q

-- the file of a name is as it was, or gone
abbrev pub IsUnlinked : List ℕ → Files → Files → Type 0
IsUnlinked name old new = (new ≡ old) ⊎ (new ≡ without_file old name)

told_gone : (old : Option Files) (name : List ℕ) → WhileTold (λ a b. b ≡ without_file a name) old (told_without old name)
told_gone None name = tt
told_gone (Some files) name = refl

pub while_gone : (old new : Option Files) (name : List ℕ) → new ≡ told_without old name → WhileTold (λ a b. b ≡ without_file a name) old new
while_gone old new name is = subst (WhileTold (λ a b. b ≡ without_file a name) old) (sym is) (told_gone old name)

told_unlinked : (old : Option Files) (name : List ℕ) → WhileTold (IsUnlinked name) old (told_without old name)
told_unlinked None name = tt
told_unlinked (Some files) name = inr refl

pub while_unlinked : (old new : Option Files) (name : List ℕ) (fault : DiskFault) → IsOldOrNew old (told_without old name) new fault → WhileTold (IsUnlinked name) old new
while_unlinked old new name fault (inl same) = while_same (IsUnlinked name) old new (λ files. inl refl) same
while_unlinked old new name fault (inr is) = subst (WhileTold (IsUnlinked name) old) (sym is.1) (told_unlinked old name)

pub while_map : (P Q : Files → Files → Type 0) (first next : Option Files) → ((a b : Files) → P a b → Q a b) → WhileTold P first next → WhileTold Q first next
while_map P Q None None more p = tt
while_map P Q None (Some b) more p = absurd p
while_map P Q (Some a) None more p = absurd p
while_map P Q (Some a) (Some b) more p = more a b p

-- ---- a file that is none of the disk

put_but : (old : Option Files) (name bytes : List ℕ) → WhileTold (IsSameBut name) old (told_with old name bytes)
put_but None name bytes = tt
put_but (Some files) name bytes = λ other apart.
    get-insert nat_list_cmp_total files name bytes other
    ∙ ap (λ b. cond b (Some bytes) (get files other)) (false_from_ne_true (eq_by_cmp by_name other name) (λ same. apart (one_key other name same)))

pub noted : (old new : Option Files) (name bytes : List ℕ) → new ≡ told_with old name bytes → WhileTold (IsSameBut name) old new
noted old new name bytes is = subst (WhileTold (IsSameBut name) old) (sym is) (put_but old name bytes)

pub noted_or_not : (old new : Option Files) (name bytes : List ℕ) (fault : DiskFault) → IsOldOrNew old (told_with old name bytes) new fault → WhileTold (IsSameBut name) old new
noted_or_not old new name bytes fault (inl same) = while_same (IsSameBut name) old new (λ files other apart. refl) same
noted_or_not old new name bytes fault (inr is) = noted old new name bytes is.1

gone_but : (old : Option Files) (name : List ℕ) → WhileTold (IsSameBut name) old (told_without old name)
gone_but None name = tt
gone_but (Some files) name = λ other apart.
    get-remove nat_list_cmp_total files name other
    ∙ ap (λ b. cond b None (get files other)) (false_from_ne_true (eq_by_cmp by_name other name) (λ same. apart (one_key other name same)))

pub cleared : (old new : Option Files) (name : List ℕ) → new ≡ told_without old name → WhileTold (IsSameBut name) old new
cleared old new name is = subst (WhileTold (IsSameBut name) old) (sym is) (gone_but old name)

pub cleared_or_not : (old new : Option Files) (name : List ℕ) (fault : DiskFault) → IsOldOrNew old (told_without old name) new fault → WhileTold (IsSameBut name) old new
cleared_or_not old new name fault (inl same) = while_same (IsSameBut name) old new (λ files other apart. refl) same
cleared_or_not old new name fault (inr is) = cleared old new name is.1

pub same_but : (told : Option Files) (name : List ℕ) → WhileTold (IsSameBut name) told told
same_but told name = while_same (IsSameBut name) told told (λ files other apart. refl) refl

-- the same at each name inside, so the same files of the disk
pub inside_same : (old new : Files) → ((name : List ℕ) → is_inside name ≡ true → file_at new name ≡ file_at old name) → disk_files new ≡ disk_files old
inside_same old new same = same_files (disk_files new) (disk_files old) (λ q.
    elim (is_inside q) as (λ e. is_inside q ≡ e → get (disk_files new) q ≡ get (disk_files old) q) [
      | true ↦ λ inside. inside_at new q inside ∙ same q inside ∙ sym (inside_at old q inside)
      | false ↦ λ outside. outside_at new q outside ∙ sym (outside_at old q outside)
    ] refl)

boot_outside : (name : List ℕ) → is_inside name ≡ true → name ≢ boot_file
boot_outside name inside same = true≢false (sym inside ∙ ap is_inside same)

but_disk : (old new : Files) → IsSameBut boot_file old new → disk_files new ≡ disk_files old
but_disk old new but = inside_same old new (λ name inside. but name (boot_outside name inside))

pub noted_disk : (old new : Option Files) → WhileTold (IsSameBut boot_file) old new → WhileTold (λ a b. disk_files b ≡ disk_files a) old new
noted_disk old new = while_map (IsSameBut boot_file) (λ a b. disk_files b ≡ disk_files a) old new but_disk

-- ---- the removal of the files that were found, in their order

-- a name stands in a list from a place on
abbrev pub IsAhead : List (List ℕ) → ℕ → List ℕ → Type 0
IsAhead found at name = (k : ℕ) × (at ≤ k) × (k < length found) × (get_or found k name ≡ name)

-- How far the removal has come: what is no file of the disk is the same, nothing is there that wasn't, and each file of the disk that is there is still to come.
pub record IsCleared (found : List (List ℕ)) (at : ℕ) (first now : Files) : Type 0 where
  pub rest : (name : List ℕ) → is_inside name ≡ false → file_at now name ≡ file_at first name
  pub fewer : (name : List ℕ) → contains_key now name ≡ true → contains_key first name ≡ true
  pub ahead : (name : List ℕ) → contains_key (disk_files now) name ≡ true → IsAhead found at name

inside_of : (files : Files) (name : List ℕ) (b : Bool) → is_inside name ≡ b → contains_key (disk_files files) name ≡ true → is_inside name ≡ true
inside_of files name true is has = is
inside_of files name false is has = absurd (true≢false (sym has ∙ ap is_some (outside_at files name is)))

pub disk_has : (files : Files) (name : List ℕ) → contains_key (disk_files files) name ≡ true → (is_inside name ≡ true) × (contains_key files name ≡ true)
disk_has files name has =
    let inside = inside_of files name (is_inside name) refl has in
    (inside, sym (ap is_some (inside_at files name inside)) ∙ has)

pub begins_clearing : (found : List (List ℕ)) (told : Option Files) → IfSome told (λ files. IsNamesOf files found) → WhileTold (IsCleared found 0) told told
begins_clearing found None names = tt
begins_clearing found (Some files) names = record {
  rest = λ name outside. refl;
  fewer = λ name has. has;
  ahead = λ name has. let at = (names name).1 (there_from_test (get files name) (disk_has files name has).1) in (at.0, omega arith, at.1, at.2);
}

at_or_after : (at k : ℕ) → at ≤ k → (k ≡ at) ⊎ (at + 1 ≤ k)
at_or_after zero zero le = inl refl
at_or_after zero (suc k) le = inr (omega arith)
at_or_after (suc at) zero le = absurd (omega (arith, le))
at_or_after (suc at) (suc k) le = elim (at_or_after at k (omega (arith, le))) [
  | inl same ↦ inl (ap (λ n. suc n) same)
  | inr more ↦ inr (omega (arith, more))
]

-- past a name that isn't one of those still to come
passed : (found : List (List ℕ)) (at : ℕ) (item name : List ℕ) → item ≡ get_or found at item → (item ≡ name → ⊥) → IsAhead found at name → IsAhead found (at + 1) name
passed found at item name is other ahead = elim (at_or_after at ahead.0 ahead.1) [
  | inl same ↦ absurd (other (is ∙ get_or_default found at item name (subst (λ k. k < length found) same ahead.2)
      ∙ subst (λ k. get_or found k name ≡ name) same ahead.3))
  | inr more ↦ (ahead.0, more, ahead.2, ahead.3)
]

-- a step at a name that is none of the disk's
pub passes_over : (found : List (List ℕ)) (at : ℕ) (item : List ℕ) (first now : Option Files) → item ≡ get_or found at item → is_inside item ≡ false
    → WhileTold (IsCleared found at) first now → WhileTold (IsCleared found (at + 1)) first now
passes_over found at item None None is outside so_far = tt
passes_over found at item None (Some now) is outside so_far = absurd so_far
passes_over found at item (Some first) None is outside so_far = absurd so_far
passes_over found at item (Some first) (Some now) is outside so_far = record {
  rest = so_far.rest;
  fewer = so_far.fewer;
  ahead = λ name has. passed found at item name is (λ same. true≢false (sym (disk_has now name has).0 ∙ sym (ap is_inside same) ∙ outside)) (so_far.ahead name has);
}

-- a removal of one of the disk's keeps each file that is none
rest_stays : (files : Files) (name q : List ℕ) → is_inside name ≡ true → is_inside q ≡ false → file_at (without_file files name) q ≡ file_at files q
rest_stays files name q inside outside =
    get-remove nat_list_cmp_total files name q ∙ ap (λ b. cond b None (get files q)) (false_from_ne_true (eq_by_cmp by_name q name) (λ same.
    true≢false (sym inside ∙ sym (ap is_inside (one_key q name same)) ∙ outside)))

fewer_stay : (files : Files) (name q : List ℕ) (e : Bool) → eq_by_cmp by_name q name ≡ e → contains_key (without_file files name) q ≡ true → (contains_key files q ≡ true) × (e ≡ false)
fewer_stay files name q true t has = absurd (true≢false (sym has ∙ ap (contains_key (without_file files name)) (one_key q name t) ∙ removed files name))
fewer_stay files name q false t has = (sym (removed_other files name q t) ∙ has, refl)

unlinked_part : (found : List (List ℕ)) (at : ℕ) (item : List ℕ) (first now : Files) → is_inside item ≡ true → IsCleared found at first now → IsCleared found at first (without_file now item)
unlinked_part found at item first now inside so_far = record {
  rest = λ name outside. rest_stays now item name inside outside ∙ so_far.rest name outside;
  fewer = λ name has. so_far.fewer name (fewer_stay now item name (eq_by_cmp by_name name item) refl has).0;
  ahead = λ name has.
      let is = disk_has (without_file now item) name has in
      so_far.ahead name (ap is_some (inside_at now name is.0) ∙ (fewer_stay now item name (eq_by_cmp by_name name item) refl is.1).0);
}

-- a removal that isn't known to be made
pub unlinks_or_not : (found : List (List ℕ)) (at : ℕ) (item : List ℕ) (a b c : Files) → is_inside item ≡ true → IsCleared found at a b → IsUnlinked item b c → IsCleared found at a c
unlinks_or_not found at item a b c inside so_far (inl same) = subst (IsCleared found at a) (sym same) so_far
unlinks_or_not found at item a b c inside so_far (inr is) = subst (IsCleared found at a) (sym is) (unlinked_part found at item a b inside so_far)

gone_name : (files : Files) (item name : List ℕ) → contains_key (without_file files item) name ≡ true → item ≡ name → ⊥
gone_name files item name has same = true≢false (sym has ∙ ap (contains_key (without_file files item)) (sym same) ∙ removed files item)

-- a step at a name whose file is gone
pub unlinks : (found : List (List ℕ)) (at : ℕ) (item : List ℕ) (a b c : Files) → item ≡ get_or found at item → is_inside item ≡ true → IsCleared found at a b → c ≡ without_file b item
    → IsCleared found (at + 1) a c
unlinks found at item a b c is inside so_far gone = subst (IsCleared found (at + 1) a) (sym gone) (record {
  rest = (unlinked_part found at item a b inside so_far).rest;
  fewer = (unlinked_part found at item a b inside so_far).fewer;
  ahead = λ name has. passed found at item name is (gone_name b item name (disk_has (without_file b item) name has).1) ((unlinked_part found at item a b inside so_far).ahead name has);
})

-- at the end no file of the disk is left
none_left : (found : List (List ℕ)) (at : ℕ) (first now : Files) → length found ≤ at → IsCleared found at first now → disk_files now ≡ empty
none_left found at first now end so_far = same_files (disk_files now) empty (λ name.
    none_from_test (get (disk_files now) name) (false_from_ne_true (contains_key (disk_files now) name) (λ has.
    let ahead = so_far.ahead name has in omega (arith, end, ahead.1, ahead.2)))
    ∙ sym (get-empty by_name name))

pub all_gone : (found : List (List ℕ)) (at : ℕ) (first now : Option Files) → length found ≤ at → WhileTold (IsCleared found at) first now
    → WhileTold (λ a b. disk_files b ≡ empty) first now
all_gone found at None None end so_far = tt
all_gone found at None (Some now) end so_far = absurd so_far
all_gone found at (Some first) None end so_far = absurd so_far
all_gone found at (Some first) (Some now) end so_far = none_left found at first now end so_far

-- ---- whether a disk goes on with its files

two : (a b c d : Bool) → (c ≡ true → a ≡ true) → d ≡ b → a && b ≡ false → c && d ≡ false
two true b true d more same none = same ∙ none
two false b true d more same none = absurd (true≢false (sym (more refl)))
two a b false d more same none = refl

pub still_not_kept : (boot : Option (List ℕ)) (found : List (List ℕ)) (at : ℕ) (first now : Files) → IsCleared found at first now → is_kept boot first ≡ false → is_kept boot now ≡ false
still_not_kept boot found at first now so_far none =
    two (is_some (file_at first session_file)) (is_same_boot boot (file_at first boot_file)) (is_some (file_at now session_file)) (is_same_boot boot (file_at now boot_file))
    (so_far.fewer session_file) (ap (is_same_boot boot) (so_far.rest boot_file refl)) none

pub not_kept_told : (boot : Option (List ℕ)) (found : List (List ℕ)) (at : ℕ) (first now : Option Files) → WhileTold (IsCleared found at) first now
    → WhileTold (λ a b. is_kept boot a ≡ false → is_kept boot b ≡ false) first now
not_kept_told boot found at None None so_far = tt
not_kept_told boot found at None (Some now) so_far = absurd so_far
not_kept_told boot found at (Some first) None so_far = absurd so_far
not_kept_told boot found at (Some first) (Some now) so_far = still_not_kept boot found at first now so_far

-- ---- each call of the opening

pub below_of_inside : (name : List ℕ) → is_inside name ≡ true → is_below name ≡ true
below_of_inside name inside = and_second (not (is_beside name)) (is_below name) inside

pub below_of_left : (name : List ℕ) → is_left name ≡ true → is_below name ≡ true
below_of_left name left = and_second (not (is_own name)) (is_below name) (and_second (is_beside name) _ left)

outside_first : (a b c d : Bool) → a && (c && d) ≡ true → not a && b ≡ false
outside_first true b c d e = refl
outside_first false b c d e = absurd (true≢false (sym e))

pub outside_of_left : (name : List ℕ) → is_left name ≡ true → is_inside name ≡ false
outside_of_left name left = outside_first (is_beside name) (is_below name) (not (is_own name)) (is_below name) left

-- a removal that was made
told_taken : (old : Option Files) (name : List ℕ) → is_inside name ≡ true → WhileTold (IsTaken name) old (told_without old name)
told_taken None name inside = tt
told_taken (Some files) name inside = sym (ap (λ b. cond b (without_file files name) files) inside)

pub taken : (old new : Option Files) (name : List ℕ) → is_inside name ≡ true → new ≡ told_without old name → WhileTold (IsTaken name) old new
taken old new name inside is = subst (WhileTold (IsTaken name) old) (sym is) (told_taken old name inside)

told_taken_or_not : (old : Option Files) (name : List ℕ) → is_inside name ≡ true → WhileTold (IsTakenOrNot name) old (told_without old name)
told_taken_or_not None name inside = tt
told_taken_or_not (Some files) name inside = inr (inside, refl)

pub taken_any : (old new : Option Files) (name : List ℕ) → is_inside name ≡ true → new ≡ told_without old name → WhileTold (IsTakenOrNot name) old new
taken_any old new name inside is = subst (WhileTold (IsTakenOrNot name) old) (sym is) (told_taken_or_not old name inside)

pub taken_or_not : (old new : Option Files) (name : List ℕ) (fault : DiskFault) → is_inside name ≡ true → IsOldOrNew old (told_without old name) new fault → WhileTold (IsTakenOrNot name) old new
taken_or_not old new name fault inside (inl same) = while_same (IsTakenOrNot name) old new (λ files. inl refl) same
taken_or_not old new name fault inside (inr is) = taken_any old new name inside is.1

-- nothing to remove
pub taken_none : (told : Option Files) (name : List ℕ) → is_inside name ≡ false → WhileTold (IsTaken name) told told
taken_none None name outside = tt
taken_none (Some files) name outside = sym (ap (λ b. cond b (without_file files name) files) outside)

pub taken_none_any : (told : Option Files) (name : List ℕ) → WhileTold (IsTakenOrNot name) told told
taken_none_any None name = tt
taken_none_any (Some files) name = inl refl

-- one step of the removal
taken_step : (found : List (List ℕ)) (at : ℕ) (item : List ℕ) (a b c : Files) (e : Bool) → is_inside item ≡ e → item ≡ get_or found at item → IsCleared found at a b → c ≡ cond e (without_file b item) b
    → IsCleared found (at + 1) a c
taken_step found at item a b c true inside is so_far gone = unlinks found at item a b c is inside so_far gone
taken_step found at item a b c false outside is so_far same = subst (IsCleared found (at + 1) a) (sym same) (passes_over found at item (Some a) (Some b) is outside so_far)

pub one_taken : (found : List (List ℕ)) (at : ℕ) (item : List ℕ) (first now next : Option Files) → item ≡ get_or found at item → WhileTold (IsCleared found at) first now
    → WhileTold (IsTaken item) now next → WhileTold (IsCleared found (at + 1)) first next
one_taken found at item first now next is =
    while_then (IsCleared found at) (IsTaken item) (IsCleared found (at + 1)) first now next (λ a b c so_far gone. taken_step found at item a b c (is_inside item) refl is so_far gone)

still_not : (boot : Option (List ℕ)) (found : List (List ℕ)) (at : ℕ) (item : List ℕ) (a b c : Files) → IsCleared found at a b → IsTakenOrNot item b c → is_kept boot a ≡ false → is_kept boot c ≡ false
still_not boot found at item a b c so_far (inl same) none = still_not_kept boot found at a c (subst (IsCleared found at a) (sym same) so_far) none
still_not boot found at item a b c so_far (inr gone) none = still_not_kept boot found at a c (unlinks_or_not found at item a b c gone.0 so_far (inr gone.1)) none

pub not_kept_then : (boot : Option (List ℕ)) (found : List (List ℕ)) (at : ℕ) (item : List ℕ) (first now next : Option Files) → WhileTold (IsCleared found at) first now → WhileTold (IsTakenOrNot item) now next
    → WhileTold (λ a b. is_kept boot a ≡ false → is_kept boot b ≡ false) first next
not_kept_then boot found at item first now next =
    while_then (IsCleared found at) (IsTakenOrNot item) (λ a c. is_kept boot a ≡ false → is_kept boot c ≡ false) first now next (λ a b c so_far gone. still_not boot found at item a b c so_far gone)

rest_not : (found : List (List ℕ)) (at : ℕ) (item : List ℕ) (a b c : Files) → IsCleared found at a b → IsTakenOrNot item b c → IsRestKept a c
rest_not found at item a b c so_far (inl same) name outside apart = ap (λ (f : Files). file_at f name) same ∙ so_far.rest name outside
rest_not found at item a b c so_far (inr gone) name outside apart =
    ap (λ (f : Files). file_at f name) gone.1 ∙ rest_stays b item name gone.0 outside ∙ so_far.rest name outside

pub rest_then : (found : List (List ℕ)) (at : ℕ) (item : List ℕ) (first now next : Option Files) → WhileTold (IsCleared found at) first now → WhileTold (IsTakenOrNot item) now next
    → WhileTold IsRestKept first next
rest_then found at item first now next = while_then (IsCleared found at) (IsTakenOrNot item) IsRestKept first now next (rest_not found at item)

pub rest_told : (found : List (List ℕ)) (at : ℕ) (first now : Option Files) → WhileTold (IsCleared found at) first now → WhileTold IsRestKept first now
rest_told found at first now = while_map (IsCleared found at) IsRestKept first now (λ a b so_far name outside apart. so_far.rest name outside)

pub rest_same : (old new : Option Files) → new ≡ old → WhileTold IsRestKept old new
rest_same old new same = while_same IsRestKept old new (λ files name outside apart. refl) same

pub rest_removed : (old next last : Option Files) → next ≡ old → WhileTold IsRestKept next last → WhileTold IsRestKept old last
rest_removed old next last same kept = subst (λ told. WhileTold IsRestKept told last) same kept

pub rest_noted : (old next middle last : Option Files) → next ≡ old → WhileTold IsRestKept next middle → WhileTold (IsSameBut boot_file) middle last → WhileTold IsRestKept old last
rest_noted old next middle last same kept noted =
    rest_removed old next last same (while_then IsRestKept (IsSameBut boot_file) IsRestKept next middle last
    (λ a b c one two name outside apart. two name apart ∙ one name outside apart) kept noted)

-- ---- what the opening leaves

begun_none : (boot : Option (List ℕ)) (files : Files) → is_kept boot files ≡ false → files_begun boot files ≡ empty
begun_none boot files none = ap (λ b. cond b (disk_files files) empty) none

begun_empty : (boot : Option (List ℕ)) (files : Files) → disk_files files ≡ empty → files_begun boot files ≡ empty
begun_empty boot files none = elim (is_kept boot files) as (λ b. cond b (disk_files files) empty ≡ empty) [ true ↦ none | false ↦ refl ]

-- the disk goes on
pub goes_on : (boot : Option (List ℕ)) (old new : Option Files) → new ≡ old → IfSome old (λ files. true ≡ is_kept boot files) → WhileTold (λ a b. disk_files b ≡ files_begun boot a) old new
goes_on boot None new same kept = subst (WhileTold (λ a b. disk_files b ≡ files_begun boot a) None) (sym same) tt
goes_on boot (Some files) new same kept =
    subst (WhileTold (λ a b. disk_files b ≡ files_begun boot a) (Some files)) (sym same) (ap (λ b. cond b (disk_files files) empty) kept)

pub goes_on_same : (old new : Option Files) → new ≡ old → WhileTold (λ a b. disk_files b ≡ disk_files a) old new
goes_on_same old new same = while_same (λ a b. disk_files b ≡ disk_files a) old new (λ files. refl) same

pub begun_same : (boot : Option (List ℕ)) (old new : Option Files) → new ≡ old → WhileTold (λ a b. files_begun boot b ≡ files_begun boot a) old new
begun_same boot old new same = while_same (λ a b. files_begun boot b ≡ files_begun boot a) old new (λ files. refl) same

abbrev kept_told : Option (List ℕ) → Option Files → Bool
kept_told boot None = false
kept_told boot (Some files) = is_kept boot files

same_kept : (boot : Option (List ℕ)) (one other : Files) → Some one ≡ Some other → is_kept boot one ≡ is_kept boot other
same_kept boot one other same = ap (kept_told boot) same

gone_both : (boot : Option (List ℕ)) (old last : Option Files) → IfSome old (λ files. false ≡ is_kept boot files) → WhileTold (λ a b. disk_files b ≡ empty) old last
    → WhileTold (λ a b. (disk_files b ≡ empty) × (files_begun boot b ≡ empty) × (files_begun boot a ≡ empty)) old last
gone_both boot None None none gone = tt
gone_both boot None (Some b) none gone = absurd gone
gone_both boot (Some a) None none gone = absurd gone
gone_both boot (Some a) (Some b) none gone = (gone, begun_empty boot b gone, begun_none boot a (sym none))

-- it doesn't, and a removal failed
pub begun_removal : (boot : Option (List ℕ)) (old next last : Option Files) → next ≡ old → IfSome old (λ files. false ≡ is_kept boot files)
    → WhileTold (λ a b. is_kept boot a ≡ false → is_kept boot b ≡ false) next last → WhileTold (λ a b. files_begun boot b ≡ files_begun boot a) old last
begun_removal boot None None None same none more = tt
begun_removal boot None None (Some c) same none more = absurd more
begun_removal boot None (Some b) last same none more = absurd (true≢false (ap is_some same))
begun_removal boot (Some a) None last same none more = absurd (true≢false (sym (ap is_some same)))
begun_removal boot (Some a) (Some b) None same none more = absurd more
begun_removal boot (Some a) (Some b) (Some c) same none more =
    let old_none : is_kept boot a ≡ false = sym none in
    let next_none : is_kept boot b ≡ false = same_kept boot b a same ∙ old_none in
    begun_none boot c (more next_none) ∙ sym (begun_none boot a old_none)

-- or the files are gone, and the boot may be noted
pub begun_gone : (boot : Option (List ℕ)) (old next middle last : Option Files) → next ≡ old → IfSome old (λ files. false ≡ is_kept boot files)
    → WhileTold (λ a b. disk_files b ≡ empty) next middle → WhileTold (IsSameBut boot_file) middle last
    → WhileTold (λ a b. (disk_files b ≡ empty) × (files_begun boot b ≡ empty) × (files_begun boot a ≡ empty)) old last
begun_gone boot old next middle last same none gone noted =
    gone_both boot old last none (subst (λ told. WhileTold (λ a b. disk_files b ≡ empty) told last) same
    (while_then (λ a b. disk_files b ≡ empty) (λ a b. disk_files b ≡ disk_files a) (λ a b. disk_files b ≡ empty) next middle last (λ a b c one two. two ∙ one) gone (noted_disk middle last noted)))

pub gone_ok : (boot : Option (List ℕ)) (old last : Option Files) → WhileTold (λ a b. (disk_files b ≡ empty) × (files_begun boot b ≡ empty) × (files_begun boot a ≡ empty)) old last
    → WhileTold (λ a b. disk_files b ≡ files_begun boot a) old last
gone_ok boot None None is = tt
gone_ok boot None (Some b) is = absurd is
gone_ok boot (Some a) None is = absurd is
gone_ok boot (Some a) (Some b) is = is.0 ∙ sym is.2

pub gone_empty : (boot : Option (List ℕ)) (old last : Option Files) → WhileTold (λ a b. (disk_files b ≡ empty) × (files_begun boot b ≡ empty) × (files_begun boot a ≡ empty)) old last
    → WhileTold (λ a b. disk_files b ≡ empty) old last
gone_empty boot None None is = tt
gone_empty boot None (Some b) is = absurd is
gone_empty boot (Some a) None is = absurd is
gone_empty boot (Some a) (Some b) is = is.0

pub gone_err : (boot : Option (List ℕ)) (old last : Option Files) → WhileTold (λ a b. (disk_files b ≡ empty) × (files_begun boot b ≡ empty) × (files_begun boot a ≡ empty)) old last
    → WhileTold (λ a b. files_begun boot b ≡ files_begun boot a) old last
gone_err boot None None is = tt
gone_err boot None (Some b) is = absurd is
gone_err boot (Some a) None is = absurd is
gone_err boot (Some a) (Some b) is = is.1 ∙ sym is.2

-- and where the disk has begun they are those that it was to begin with
pub told_begun : (boot : Option (List ℕ)) (old new : Option Files) → WhileTold (λ a b. disk_files b ≡ files_begun boot a) old new
    → option_map disk_files new ≡ option_map (files_begun boot) old
told_begun boot None None is = refl
told_begun boot None (Some b) is = absurd is
told_begun boot (Some a) None is = absurd is
told_begun boot (Some a) (Some b) is = ap Some is

pub told_still : (boot : Option (List ℕ)) (old new : Option Files) → WhileTold (λ a b. files_begun boot b ≡ files_begun boot a) old new
    → option_map (files_begun boot) new ≡ option_map (files_begun boot) old
told_still boot None None is = refl
told_still boot None (Some b) is = absurd is
told_still boot (Some a) None is = absurd is
told_still boot (Some a) (Some b) is = ap Some is
