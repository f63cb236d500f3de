-- The names that a disk knows once it has begun: those that were found, and may have a file.
use Rattle.std.proofs.Common.{◌≡◌, ◌+◌, ◌<◌, ◌≤◌, ◌⊎◌, inl, inr, ℕ, Bool, true, false, cond, List, Option, Some, None, get_or, length, refl, sym, ◌∙◌, ap, subst, arith}
use Rattle.std.specs.Prelude.{◌↔◌, IfSome, option_map}
use Rattle.std.specs.FinMap.{contains_key, empty, get, get-empty, insert}
use Rattle.std.specs.Option.{is_some}
use Rattle.std.specs.Ordering.{eq_by_cmp}
use Rattle.std.proofs.lemmas.Bool.{true≢false}
use Rattle.std.proofs.lemmas.List.{get_or_default}
use Rattle.sp_base.specs.Names.{by_name}
use Rattle.sp_base.proofs.OptionLemmas.{test_from_there, there_from_test}
use Rattle.sp_outside.specs.FileNames.{is_inside}
use Rattle.sp_outside.specs.Files.{Files, file_at}
use Rattle.sp_outside.specs.FolderFiles.{FolderState, IsNamesOf, WhileTold, boot_file, disk_files, files_begun, files_held, is_same_boot}
use Rattle.sp_outside.specs.NameIndex.{IsIndex, IsLeftTaken, IsNamesOfDisk, NameSet}
use Rattle.sp_outside.proofs.Begun.{disk_has}
use Rattle.sp_outside.proofs.DiskFiles.{inside_at, outside_at}
use Rattle.sp_outside.proofs.Indexed.{Knows, open_held}
use Rattle.sp_outside.proofs.Left.{before_or_at, left_disk}
use Rattle.sp_outside.proofs.NameSets.{inserted, inserted_other, one_key}

-- the set has exactly the names of the list that stand before a place, and may have a file of the disk
abbrev pub IsNamesTo : List (List ℕ) → ℕ → NameSet → Type 0
IsNamesTo found at names = (name : List ℕ) → contains_key names name ≡ true ↔ ((is_inside name ≡ true) × ((k : ℕ) × (k < at) × (k < length found) × (get_or found k name ≡ name)))

pub no_names_yet : (found : List (List ℕ)) → IsNamesTo found 0 empty
no_names_yet found name = (
  λ has. absurd (true≢false (sym has ∙ ap is_some (get-empty by_name name))),
  λ is. absurd (omega (arith, is.1.1)),
)

-- of a place at or before this one, the name is this one's or stands before it
this_or_before : (found : List (List ℕ)) (at : ℕ) (item name : List ℕ) → item ≡ get_or found at item → ((k : ℕ) × (k < at + 1) × (k < length found) × (get_or found k name ≡ name))
    → (item ≡ name) ⊎ ((k : ℕ) × (k < at) × (k < length found) × (get_or found k name ≡ name))
this_or_before found at item name is place = elim (before_or_at at place.0 place.1) [
  | inl same ↦ inl (is ∙ get_or_default found at item name (subst (λ k. k < length found) same place.2) ∙ subst (λ k. get_or found k name ≡ name) same place.3)
  | inr less ↦ inr (place.0, less, place.2, place.3)
]

still_has : (names : NameSet) (item name : List ℕ) → contains_key names name ≡ true → contains_key (insert names item tt) name ≡ true
still_has names item name has = elim (eq_by_cmp by_name name item) as (λ e. eq_by_cmp by_name name item ≡ e → contains_key (insert names item tt) name ≡ true) [
  | true ↦ λ t. ap (contains_key (insert names item tt)) (one_key name item t) ∙ inserted names item tt
  | false ↦ λ t. inserted_other names item tt name t ∙ has
] refl

add_step : (found : List (List ℕ)) (at : ℕ) (item : List ℕ) (names new : NameSet) (e : Bool) → is_inside item ≡ e → at < length found → item ≡ get_or found at item → IsNamesTo found at names
    → new ≡ cond e (insert names item tt) names → IsNamesTo found (at + 1) new
add_step found at item names new true inside lt is so_far added name = (
  λ has.
      elim (eq_by_cmp by_name name item) as (λ e. eq_by_cmp by_name name item ≡ e → (is_inside name ≡ true) × ((k : ℕ) × (k < at + 1) × (k < length found) × (get_or found k name ≡ name))) [
        | true ↦ λ t. let same : item ≡ name = sym (one_key name item t) in
            (sym (ap is_inside same) ∙ inside, (at, omega arith, lt, get_or_default found at name item lt ∙ sym is ∙ same))
        | false ↦ λ t.
            let old = (so_far name).0 (sym (inserted_other names item tt name t) ∙ sym (ap (λ n. contains_key n name) added) ∙ has) in
            (old.0, (old.1.0, omega (arith, old.1.1), old.1.2, old.1.3))
      ] refl,
  λ is_one.
      ap (λ n. contains_key n name) added ∙ elim (this_or_before found at item name is is_one.1) [
        | inl same ↦ ap (contains_key (insert names item tt)) (sym same) ∙ inserted names item tt
        | inr before ↦ still_has names item name ((so_far name).1 (is_one.0, before))
      ],
)
add_step found at item names new false outside lt is so_far same name = (
  λ has. let old = (so_far name).0 (sym (ap (λ n. contains_key n name) same) ∙ has) in (old.0, (old.1.0, omega (arith, old.1.1), old.1.2, old.1.3)),
  λ is_one.
      ap (λ n. contains_key n name) same ∙ elim (this_or_before found at item name is is_one.1) [
        | inl this ↦ absurd (true≢false (sym is_one.0 ∙ sym (ap is_inside this) ∙ outside))
        | inr before ↦ (so_far name).1 (is_one.0, before)
      ],
)

pub one_added : (found : List (List ℕ)) (at : ℕ) (item : List ℕ) (names new : NameSet) → at < length found → item ≡ get_or found at item → IsNamesTo found at names
    → new ≡ cond (is_inside item) (insert names item tt) names → IsNamesTo found (at + 1) new
one_added found at item names new lt is so_far added = add_step found at item names new (is_inside item) refl lt is so_far added

pub all_added : (found : List (List ℕ)) (at : ℕ) (names : NameSet) → length found ≤ at → IsNamesTo found at names → IsNamesOfDisk found names
all_added found at names end so_far name = (
  λ has. let is = (so_far name).0 has in (is.0, (is.1.0, is.1.2, is.1.3)),
  λ is. (so_far name).1 (is.0, (is.1.0, omega (arith, is.1.1, end), is.1.1, is.1.2)),
)

-- ---- and what is known of the files middle

index_found : (found : List (List ℕ)) (names : NameSet) (old new : Files) → IsNamesOf old found → IsNamesOfDisk found names → disk_files new ≡ disk_files old
    → IsIndex (disk_files new) names empty
index_found found names old new all inside same = subst (λ held. IsIndex held names empty) (sym same) (record {
  listed = λ name has. let is = disk_has old name has in (inside name).1 (is.0, (all name).1 (there_from_test (get old name) is.1));
  backed = λ name has sure. let is = (inside name).0 has in ap is_some (inside_at old name is.0) ∙ test_from_there (get old name) ((all name).0 is.1);
})

index_none : (new : Files) → disk_files new ≡ empty → IsIndex (disk_files new) empty empty
index_none new none = record {
  listed = λ name has.
      absurd (true≢false (sym has ∙ ap (λ (files : Files). contains_key files name) none ∙ ap is_some (get-empty by_name name)));
  backed = λ name has sure. absurd (true≢false (sym has ∙ ap is_some (get-empty by_name name)));
}

pub found_index : (found : List (List ℕ)) (names : NameSet) (old now new : Option Files) → IfSome old (λ files. IsNamesOf files found) → IsNamesOfDisk found names
    → WhileTold (λ a b. disk_files b ≡ disk_files a) old now → WhileTold IsLeftTaken now new → Knows new names empty
found_index found names None None None all inside one two = tt
found_index found names None None (Some c) all inside one two = absurd two
found_index found names None (Some b) new all inside one two = absurd one
found_index found names (Some a) None new all inside one two = absurd one
found_index found names (Some a) (Some b) None all inside one two = absurd two
found_index found names (Some a) (Some b) (Some c) all inside one two = index_found found names a c all inside (left_disk _ _ two ∙ one)

pub none_index : (old now new : Option Files) → WhileTold (λ a b. disk_files b ≡ empty) old now → WhileTold IsLeftTaken now new → Knows new empty empty
none_index None None None one two = tt
none_index None None (Some c) one two = absurd two
none_index None (Some b) new one two = absurd one
none_index (Some a) None new one two = absurd one
none_index (Some a) (Some b) None one two = absurd two
none_index (Some a) (Some b) (Some c) one two = index_none c (left_disk _ _ two ∙ one)

-- the files of the disk are the same after files were taken away that were left beside others
pub same_told : (old new : Option Files) → WhileTold IsLeftTaken old new → option_map disk_files new ≡ option_map disk_files old
same_told None None same = refl
same_told None (Some b) same = absurd same
same_told (Some a) None same = absurd same
same_told (Some a) (Some b) same = ap Some (left_disk a b same)

-- ---- what is asked of the files

pub outside_has : (below : Option Files) (name : List ℕ) → is_inside name ≡ false → IfSome below (λ files. false ≡ contains_key (disk_files files) name)
outside_has None name outside = tt
outside_has (Some files) name outside = sym (ap is_some (outside_at files name outside))

pub inside_has : (below : Option Files) (name : List ℕ) (found : Option (List ℕ)) (b : Bool) → is_inside name ≡ true → b ≡ is_some found → IfSome below (λ files. found ≡ file_at files name)
    → IfSome below (λ files. b ≡ contains_key (disk_files files) name)
inside_has None name found b inside is value = tt
inside_has (Some files) name found b inside is value = is ∙ ap is_some value ∙ sym (ap is_some (inside_at files name inside))

pub same_boot : (below : Option Files) (boot id kept : Option (List ℕ)) (b : Bool) → b ≡ is_same_boot id kept → IfSome below (λ _. id ≡ boot) → IfSome below (λ files. kept ≡ file_at files boot_file)
    → IfSome below (λ files. b ≡ is_same_boot boot (file_at files boot_file))
same_boot None boot id kept b is one two = tt
same_boot (Some files) boot id kept b is one two = is ∙ ap (λ i. is_same_boot i kept) one ∙ ap (is_same_boot boot) two

-- ---- the call that reads the names

pub names_walked : (before walked : Option Files) (names found : List (List ℕ)) → walked ≡ before → found ≡ names → IfSome before (λ files. IsNamesOf files names) → IfSome walked (λ files. IsNamesOf files found)
names_walked before walked names found same is all =
    subst (λ told. IfSome told (λ files. IsNamesOf files found)) (sym same) (subst (λ (l : List (List ℕ)). IfSome before (λ files. IsNamesOf files l)) (sym is) all)

pub kept_index : (found : List (List ℕ)) (names : NameSet) (walked begun opened last : Option Files) (kept : Bool) → kept ≡ true → IfSome walked (λ files. IsNamesOf files found) → IsNamesOfDisk found names
    → WhileTold (λ a b. disk_files b ≡ cond kept (disk_files a) empty) walked begun → opened ≡ begun → WhileTold IsLeftTaken opened last → Knows last names empty
kept_index found names walked begun opened last kept true_is all inside is seen taken =
    found_index found names walked begun last all inside
    (subst (λ k. WhileTold (λ a b. disk_files b ≡ cond k (disk_files a) empty) walked begun) true_is is)
    (subst (λ told. WhileTold IsLeftTaken told last) seen taken)

pub begun_index : (walked begun opened last : Option Files) (kept : Bool) → kept ≡ false
    → WhileTold (λ a b. disk_files b ≡ cond kept (disk_files a) empty) walked begun → opened ≡ begun → WhileTold IsLeftTaken opened last → Knows last empty empty
begun_index walked begun opened last kept false_is is seen taken =
    none_index walked begun last
    (subst (λ k. WhileTold (λ a b. disk_files b ≡ cond k (disk_files a) empty) walked begun) false_is is)
    (subst (λ told. WhileTold IsLeftTaken told last) seen taken)

-- the disk has the files that it had, by what is known of each step
pub held_parts : (boot : Option (List ℕ)) (one other : Option Files) (x y : Bool) → one ≡ other → x ≡ y
    → option_map (λ files. cond x (disk_files files) (files_begun boot files)) one ≡ option_map (λ files. cond y (disk_files files) (files_begun boot files)) other
held_parts boot one other x y same begun =
    ap (λ b. option_map (λ files. cond b (disk_files files) (files_begun boot files)) one) begun
    ∙ ap (option_map (λ files. cond y (disk_files files) (files_begun boot files))) same

pub held_found : (boot : Option (List ℕ)) (told : Option Files) (begun : FolderState) (opened last : Option Files) → begun.is_open ≡ true → opened ≡ begun.below → WhileTold IsLeftTaken opened last
    → files_held boot begun ≡ told → option_map disk_files last ≡ told
held_found boot told begun opened last open_is is taken same =
    same_told opened last taken ∙ ap (option_map disk_files) is ∙ sym (open_held boot begun open_is) ∙ same
