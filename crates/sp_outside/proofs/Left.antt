-- What is left of the files beside others, once those were taken away that a killed process left.
use Rattle.std.proofs.Common.{◌≡◌, ◌+◌, ◌<◌, ◌≤◌, ◌⊎◌, inl, inr, ℕ, zero, suc, Bool, true, false, cond, List, [], Option, Some, None, Result, Ok, Err, get_or, length, refl, sym, ◌∙◌, ap, subst, arith}
use Rattle.std.specs.Prelude.{⊤, IfErr, IfSome, OnOk}
use Rattle.std.specs.Cmp.Lexicographic.{nat_list_cmp_total}
use Rattle.std.specs.FinMap.{get, get-remove}
use Rattle.std.specs.Ordering.{eq_by_cmp}
use Rattle.std.proofs.lemmas.Bool.{false_from_ne_true, true≢false}
use Rattle.std.proofs.lemmas.List.{get_or_default}
use Rattle.sp_base.specs.Names.{by_name}
use Rattle.sp_outside.specs.Causes.{HasDiskCause}
use Rattle.sp_outside.specs.FileNames.{is_left}
use Rattle.sp_outside.specs.Files.{Files, IsOldOrNew, file_at, told_without, without_file}
use Rattle.sp_outside.specs.FolderFiles.{HasNoFault, WhileTold, disk_files}
use Rattle.sp_outside.specs.NameIndex.{IsLeftGone, IsLeftOrNot, IsLeftTaken, IsWithout}
use Rattle.sp_outside.specs.declared.disk.DiskFault.{DiskFault}
use Rattle.sp_outside.specs.declared.disk.DiskFault.TheVariants.{Failed, NoMemory}
use Rattle.sp_outside.proofs.Begun.{inside_same, outside_of_left, while_gone, while_same, while_then}
use Rattle.sp_outside.proofs.NameSets.{one_key, same_key}

-- ---- faults

pub rises : {T : Type 0} (before after : ℕ) (r : Result T DiskFault) → HasDiskCause before after r → before ≤ after
rises before after (Ok x) same = omega (arith, same)
rises before after (Err Failed) rose = rose.0
rises before after (Err NoMemory) same = omega (arith, same)

-- a count that is seen as another
pub rising_seen : (first opened last : ℕ) → opened ≡ first → opened ≤ last → first ≤ last
rising_seen first opened last is rise = subst (λ n. n ≤ last) is rise

abbrev is_failed : DiskFault → Bool
is_failed Failed = true
is_failed NoMemory = false

-- where the count stands still, short of its end, the removal was made
pub made : (r : Result ⊤ DiskFault) (before after : ℕ) (old new : Option Files) (name : List ℕ) → HasDiskCause before after r → IfErr r (λ e. e ≡ Failed)
    → OnOk r (new ≡ told_without old name) → HasNoFault before after → WhileTold (IsWithout name) old new
made (Ok x) before after old new name cause fails ok none = while_gone old new name ok
made (Err Failed) before after old new name cause fails ok none = absurd (omega (arith, cause.1, none.0, none.1))
made (Err NoMemory) before after old new name cause fails ok none = absurd (true≢false (sym (ap is_failed fails)))

-- ---- one name

told_left : (old : Option Files) (name : List ℕ) → is_left name ≡ true → WhileTold (IsLeftOrNot name) old (told_without old name)
told_left None name left = tt
told_left (Some files) name left = inr (left, refl)

pub left_gone : (old new : Option Files) (name : List ℕ) → is_left name ≡ true → new ≡ told_without old name → WhileTold (IsLeftOrNot name) old new
left_gone old new name left is = subst (WhileTold (IsLeftOrNot name) old) (sym is) (told_left old name left)

pub left_same : (old new : Option Files) (name : List ℕ) → new ≡ old → WhileTold (IsLeftOrNot name) old new
left_same old new name same = while_same (IsLeftOrNot name) old new (λ files. inl refl) same

pub left_gone_or_not : (old new : Option Files) (name : List ℕ) (fault : DiskFault) → is_left name ≡ true → IsOldOrNew old (told_without old name) new fault → WhileTold (IsLeftOrNot name) old new
left_gone_or_not old new name fault left (inl same) = left_same old new name same
left_gone_or_not old new name fault left (inr is) = left_gone old new name left is.1

-- ---- those that were found, in their order

pub none_stays : (files : Files) (name q : List ℕ) → file_at files q ≡ None → file_at (without_file files name) q ≡ None
none_stays files name q none =
    get-remove nat_list_cmp_total files name q
    ∙ elim (eq_by_cmp by_name q name) as (λ e. cond e None (get files q) ≡ None) [
      | true ↦ refl
      | false ↦ none
    ]

others_stay : (files : Files) (name q : List ℕ) → is_left name ≡ true → is_left q ≡ false → file_at (without_file files name) q ≡ file_at files q
others_stay files name q left other =
    get-remove nat_list_cmp_total files name q ∙ ap (λ b. cond b None (get files q)) (false_from_ne_true (eq_by_cmp by_name q name) (λ same.
    true≢false (sym left ∙ sym (ap is_left (one_key q name same)) ∙ other)))

gone_itself : (files : Files) (name : List ℕ) → file_at (without_file files name) name ≡ None
gone_itself files name = get-remove nat_list_cmp_total files name name ∙ ap (λ b. cond b None (get files name)) (same_key name)

pub none_taken : (told : Option Files) → WhileTold IsLeftTaken told told
none_taken told = while_same IsLeftTaken told told (λ files. record { kept = λ name other. refl; fewer = λ name none. none }) refl

step_taken : (item : List ℕ) (a b c : Files) → IsLeftTaken a b → IsLeftOrNot item b c → IsLeftTaken a c
step_taken item a b c so_far (inl same) = subst (IsLeftTaken a) (sym same) so_far
step_taken item a b c so_far (inr gone) = subst (IsLeftTaken a) (sym gone.1) (record {
  kept = λ name other. others_stay b item name gone.0 other ∙ so_far.kept name other;
  fewer = λ name none. none_stays b item name (so_far.fewer name none);
})

pub one_left : (item : List ℕ) (first now next : Option Files) → WhileTold IsLeftTaken first now → WhileTold (IsLeftOrNot item) now next → WhileTold IsLeftTaken first next
one_left item first now next = while_then IsLeftTaken (IsLeftOrNot item) IsLeftTaken first now next (step_taken item)

-- of the first names that were found none is one of a file that was left
abbrev pub IsGoneTo : List (List ℕ) → ℕ → Files → Type 0
IsGoneTo found at files = (k : ℕ) → k < at → k < length found → is_left (get_or found k []) ≡ true → file_at files (get_or found k []) ≡ None

pub before_or_at : (at k : ℕ) → k < at + 1 → (k ≡ at) ⊎ (k < at)
before_or_at zero zero lt = inl refl
before_or_at zero (suc k) lt = absurd (omega (arith, lt))
before_or_at (suc at) zero lt = inr (omega arith)
before_or_at (suc at) (suc k) lt = elim (before_or_at at k (omega (arith, lt))) [
  | inl same ↦ inl (ap (λ n. suc n) same)
  | inr less ↦ inr (omega (arith, less))
]

still_none : (item q : List ℕ) (a b : Files) → IsLeftOrNot item a b → file_at a q ≡ None → file_at b q ≡ None
still_none item q a b (inl same) none = ap (λ (f : Files). file_at f q) same ∙ none
still_none item q a b (inr gone) none = ap (λ (f : Files). file_at f q) gone.1 ∙ none_stays a item q none

none_at : (item q : List ℕ) (a b : Files) → q ≡ item → (is_left item ≡ true → IsWithout item a b) → is_left q ≡ true → file_at b q ≡ None
none_at item q a b same gone left =
    ap (λ n. file_at b n) same ∙ ap (λ (f : Files). file_at f item) (gone (sym (ap is_left same) ∙ left)) ∙ gone_itself a item

step_gone : (found : List (List ℕ)) (at : ℕ) (item : List ℕ) (a b : Files) → item ≡ get_or found at item → IsGoneTo found at a → IsLeftOrNot item a b
    → (is_left item ≡ true → IsWithout item a b) → IsGoneTo found (at + 1) b
step_gone found at item a b is so_far left gone k before lt named = elim (before_or_at at k before) [
  | inl same ↦ none_at item (get_or found k []) a b
      (ap (λ n. get_or found n []) same ∙ get_or_default found at [] item (subst (λ n. n < length found) same lt) ∙ sym is) gone named
  | inr less ↦ still_none item (get_or found k []) a b left (so_far k less lt named)
]

pub one_gone : (found : List (List ℕ)) (at : ℕ) (item : List ℕ) (now next : Option Files) → item ≡ get_or found at item → IfSome now (IsGoneTo found at) → WhileTold (IsLeftOrNot item) now next
    → (is_left item ≡ true → WhileTold (IsWithout item) now next) → IfSome next (IsGoneTo found (at + 1))
one_gone found at item None None is so_far left gone = tt
one_gone found at item None (Some b) is so_far left gone = absurd left
one_gone found at item (Some a) None is so_far left gone = tt
one_gone found at item (Some a) (Some b) is so_far left gone = step_gone found at item a b is so_far left gone

pub none_gone_yet : (found : List (List ℕ)) (told : Option Files) → IfSome told (IsGoneTo found 0)
none_gone_yet found None = tt
none_gone_yet found (Some files) = λ k before lt named. absurd (omega (arith, before))

whole_gone : (found : List (List ℕ)) (at : ℕ) (files : Files) → length found ≤ at → IsGoneTo found at files → IsLeftGone found files
whole_gone found at files end so_far name has left =
    let same : get_or found has.0 [] ≡ name = get_or_default found has.0 [] name has.1 ∙ has.2 in
    subst (λ n. file_at files n ≡ None) same (so_far has.0 (omega (arith, has.1, end)) has.1 (ap is_left same ∙ left))

pub all_left_gone : (found : List (List ℕ)) (at : ℕ) (told : Option Files) → length found ≤ at → IfSome told (IsGoneTo found at) → IfSome told (IsLeftGone found)
all_left_gone found at None end so_far = tt
all_left_gone found at (Some files) end so_far = whole_gone found at files end so_far

-- ---- what it leaves of the disk

pub left_disk : (old new : Files) → IsLeftTaken old new → disk_files new ≡ disk_files old
left_disk old new taken = inside_same old new (λ name inside. taken.kept name (false_from_ne_true (is_left name) (λ left. true≢false (sym inside ∙ outside_of_left name left))))
