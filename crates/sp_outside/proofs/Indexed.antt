-- What an index of names still knows after a change, and what it tells of the files of a disk.
use Rattle.std.proofs.Common.{◌≡◌, ℕ, Bool, true, false, cond, List, Option, Some, None, Result, Ok, Err, refl, sym, ◌∙◌, ap, subst, inl, inr}
use Rattle.std.specs.Prelude.{IfOk, IfSome, option_map}
use Rattle.std.specs.Cmp.Lexicographic.{nat_list_cmp_total}
use Rattle.std.specs.FinMap.{contains_key, empty, get, insert, remove, get-remove}
use Rattle.std.specs.Option.{is_some}
use Rattle.std.specs.Ordering.{eq_by_cmp}
use Rattle.std.proofs.lemmas.Bool.{true≢false}
use Rattle.sp_base.specs.Names.{by_name}
use Rattle.sp_outside.specs.FileNames.{is_inside}
use Rattle.sp_outside.specs.Files.{Files, IsOldOrNew, file_at, told_with, told_without, with_file, without_file}
use Rattle.sp_outside.specs.FolderFiles.{FolderState, disk_files, files_begun, files_held}
use Rattle.sp_outside.specs.NameIndex.{IsIndex, NameSet}
use Rattle.sp_outside.specs.declared.disk.DiskFault.{DiskFault}
use Rattle.sp_outside.proofs.DiskFiles.{disk_with, disk_without, inside_at, outside_at, same_files}
use Rattle.sp_outside.proofs.NameSets.{inserted, inserted_other, one_key, removed, removed_other}

-- ---- one name changes

-- what is known at the name that changes
record At (held : Files) (names doubts : NameSet) (name : List ℕ) : Type 0 where
  listed : contains_key held name ≡ true → contains_key names name ≡ true
  backed : contains_key names name ≡ true → contains_key doubts name ≡ false → contains_key held name ≡ true

-- what is as before at another
record Beside (held new : Files) (names others doubts more : NameSet) (q : List ℕ) : Type 0 where
  same_held : contains_key new q ≡ contains_key held q
  same_names : contains_key others q ≡ contains_key names q
  same_doubts : contains_key more q ≡ contains_key doubts q

listed_at : (held new : Files) (names others doubts more : NameSet) (name q : List ℕ) (e : Bool) → eq_by_cmp by_name q name ≡ e → IsIndex held names doubts
    → At new others more name → (eq_by_cmp by_name q name ≡ false → Beside held new names others doubts more q)
    → contains_key new q ≡ true → contains_key others q ≡ true
listed_at held new names others doubts more name q true t index at beside has =
    let same : name ≡ q = sym (one_key q name t) in
    subst (λ n. contains_key others n ≡ true) same (at.listed (subst (λ n. contains_key new n ≡ true) (sym same) has))
listed_at held new names others doubts more name q false t index at beside has =
    (beside t).same_names ∙ index.listed q (sym (beside t).same_held ∙ has)

backed_at : (held new : Files) (names others doubts more : NameSet) (name q : List ℕ) (e : Bool) → eq_by_cmp by_name q name ≡ e → IsIndex held names doubts
    → At new others more name → (eq_by_cmp by_name q name ≡ false → Beside held new names others doubts more q)
    → contains_key others q ≡ true → contains_key more q ≡ false → contains_key new q ≡ true
backed_at held new names others doubts more name q true t index at beside has sure =
    let same : name ≡ q = sym (one_key q name t) in
    subst (λ n. contains_key new n ≡ true) same (at.backed (subst (λ n. contains_key others n ≡ true) (sym same) has) (subst (λ n. contains_key more n ≡ false) (sym same) sure))
backed_at held new names others doubts more name q false t index at beside has sure =
    (beside t).same_held ∙ index.backed q (sym (beside t).same_names ∙ has) (sym (beside t).same_doubts ∙ sure)

changed : (held new : Files) (names others doubts more : NameSet) (name : List ℕ) → IsIndex held names doubts → At new others more name
    → ((q : List ℕ) → eq_by_cmp by_name q name ≡ false → Beside held new names others doubts more q) → IsIndex new others more
changed held new names others doubts more name index at beside = record {
  listed = λ q. listed_at held new names others doubts more name q (eq_by_cmp by_name q name) refl index at (beside q);
  backed = λ q. backed_at held new names others doubts more name q (eq_by_cmp by_name q name) refl index at (beside q);
}

-- ---- each change

put_index : (held : Files) (names doubts : NameSet) (name bytes : List ℕ) → IsIndex held names doubts
    → IsIndex (with_file held name bytes) (insert names name tt) (remove doubts name)
put_index held names doubts name bytes index = changed held _ names _ doubts _ name index
    (record { listed = λ _. inserted names name tt; backed = λ _ _. inserted held name bytes })
    (λ q apart. record { same_held = inserted_other held name bytes q apart; same_names = inserted_other names name tt q apart; same_doubts = removed_other doubts name q apart })

old_index : (held : Files) (names doubts : NameSet) (name : List ℕ) → IsIndex held names doubts
    → IsIndex held (insert names name tt) (insert doubts name tt)
old_index held names doubts name index = changed held _ names _ doubts _ name index
    (record { listed = λ _. inserted names name tt; backed = λ _ sure. absurd (true≢false (sym (inserted doubts name tt) ∙ sure)) })
    (λ q apart. record { same_held = refl; same_names = inserted_other names name tt q apart; same_doubts = inserted_other doubts name tt q apart })

new_index : (held : Files) (names doubts : NameSet) (name bytes : List ℕ) → IsIndex held names doubts
    → IsIndex (with_file held name bytes) (insert names name tt) (insert doubts name tt)
new_index held names doubts name bytes index = changed held _ names _ doubts _ name index
    (record { listed = λ _. inserted names name tt; backed = λ _ sure. absurd (true≢false (sym (inserted doubts name tt) ∙ sure)) })
    (λ q apart. record { same_held = inserted_other held name bytes q apart; same_names = inserted_other names name tt q apart; same_doubts = inserted_other doubts name tt q apart })

removed_index : (held : Files) (names doubts : NameSet) (name : List ℕ) → IsIndex held names doubts
    → IsIndex (without_file held name) (remove names name) (remove doubts name)
removed_index held names doubts name index = changed held _ names _ doubts _ name index
    (record { listed = λ has. absurd (true≢false (sym has ∙ removed held name)); backed = λ has _. absurd (true≢false (sym has ∙ removed names name)) })
    (λ q apart. record { same_held = removed_other held name q apart; same_names = removed_other names name q apart; same_doubts = removed_other doubts name q apart })

kept_index : (held : Files) (names doubts : NameSet) (name : List ℕ) → contains_key names name ≡ true → IsIndex held names doubts
    → IsIndex held names (insert doubts name tt)
kept_index held names doubts name known index = changed held _ names _ doubts _ name index
    (record { listed = λ _. known; backed = λ _ sure. absurd (true≢false (sym (inserted doubts name tt) ∙ sure)) })
    (λ q apart. record { same_held = refl; same_names = refl; same_doubts = inserted_other doubts name tt q apart })

left_index : (held : Files) (names doubts : NameSet) (name : List ℕ) → contains_key names name ≡ true → IsIndex held names doubts
    → IsIndex (without_file held name) names (insert doubts name tt)
left_index held names doubts name known index = changed held _ names _ doubts _ name index
    (record { listed = λ _. known; backed = λ _ sure. absurd (true≢false (sym (inserted doubts name tt) ∙ sure)) })
    (λ q apart. record { same_held = removed_other held name q apart; same_names = refl; same_doubts = inserted_other doubts name tt q apart })

sure_index : (held : Files) (names doubts : NameSet) (name : List ℕ) → contains_key held name ≡ true → IsIndex held names doubts
    → IsIndex held names (remove doubts name)
sure_index held names doubts name has index = changed held _ names _ doubts _ name index
    (record { listed = λ _. index.listed name has; backed = λ _ _. has })
    (λ q apart. record { same_held = refl; same_names = refl; same_doubts = removed_other doubts name q apart })

gone_index : (held : Files) (names doubts : NameSet) (name : List ℕ) → contains_key held name ≡ false → IsIndex held names doubts
    → IsIndex held (remove names name) (remove doubts name)
gone_index held names doubts name none index = changed held _ names _ doubts _ name index
    (record { listed = λ has. absurd (true≢false (sym has ∙ none)); backed = λ has _. absurd (true≢false (sym has ∙ removed names name)) })
    (λ q apart. record { same_held = refl; same_names = removed_other names name q apart; same_doubts = removed_other doubts name q apart })

-- ---- where the files are told

-- the index knows the files of the disk
abbrev pub Knows : Option Files → NameSet → NameSet → Type 0
Knows below names doubts = IfSome below (λ files. IsIndex (disk_files files) names doubts)

-- the names that were found, none of them in doubt, where the files are seen as others
pub known_index : (below opened : Option Files) (names doubts : NameSet) → opened ≡ below → doubts ≡ empty → Knows below names empty → Knows opened names doubts
known_index below opened names doubts same none index =
    subst (λ (d : NameSet). Knows opened names d) (sym none) (subst (λ (b : Option Files). Knows b names empty) (sym same) index)

pub open_held : (boot : Option (List ℕ)) (s : FolderState) → s.is_open ≡ true → files_held boot s ≡ option_map disk_files s.below
open_held boot s begun = ap (λ b. option_map (λ files. cond b (disk_files files) (files_begun boot files)) s.below) begun

pub open_parts : (boot : Option (List ℕ)) (below : Option Files) (is_open : Bool) → is_open ≡ true
    → option_map (λ files. cond is_open (disk_files files) (files_begun boot files)) below ≡ option_map disk_files below
open_parts boot below is_open begun = ap (λ b. option_map (λ files. cond b (disk_files files) (files_begun boot files)) below) begun

pub closed_parts : (boot : Option (List ℕ)) (below : Option Files) (is_open : Bool) → is_open ≡ false
    → option_map (λ files. cond is_open (disk_files files) (files_begun boot files)) below ≡ option_map (files_begun boot) below
closed_parts boot below is_open closed = ap (λ b. option_map (λ files. cond b (disk_files files) (files_begun boot files)) below) closed

-- the disk's files now, where a call has left them as they were before and the state is seen as `view`
pub held_now : (boot : Option (List ℕ)) (told : Option Files) (view s : FolderState) → view ≡ s → s.is_open ≡ true → files_held boot s ≡ told → option_map disk_files view.below ≡ told
held_now boot told view s is begun same = sym (open_held boot view (ap (λ (v : FolderState). v.is_open) is ∙ begun)) ∙ ap (files_held boot) is ∙ same

no_file : (o : Option (List ℕ)) → (is_some o ≡ true → ⊥) → None ≡ o
no_file None none = refl
no_file (Some bytes) none = absurd (none refl)

pub outside_absent : (below : Option Files) (name : List ℕ) → is_inside name ≡ false → IfSome (option_map disk_files below) (λ held. None ≡ file_at held name)
outside_absent None name outside = tt
outside_absent (Some files) name outside = sym (outside_at files name outside)

pub unlisted_absent : (below : Option Files) (names doubts : NameSet) (name : List ℕ) → Knows below names doubts → contains_key names name ≡ false
    → IfSome (option_map disk_files below) (λ held. None ≡ file_at held name)
unlisted_absent None names doubts name index none = tt
unlisted_absent (Some files) names doubts name index none = no_file (get (disk_files files) name) (λ has. true≢false (sym (index.listed name has) ∙ none))

-- what a read of a name inside finds
pub met : (below told : Option Files) (name : List ℕ) (found : Result (Option (List ℕ)) DiskFault) → is_inside name ≡ true → option_map disk_files below ≡ told
    → IfOk found (λ bytes. IfSome below (λ files. bytes ≡ file_at files name)) → IfOk found (λ bytes. IfSome told (λ held. bytes ≡ file_at held name))
met below told name (Err fault) inside is value = tt
met None told name (Ok bytes) inside is value = subst (λ t. IfSome t (λ held. bytes ≡ file_at held name)) is tt
met (Some files) told name (Ok bytes) inside is value =
    subst (λ t. IfSome t (λ held. bytes ≡ file_at held name)) is (value ∙ sym (inside_at files name inside))

pub told_disk_with : (below : Option Files) (name bytes : List ℕ) → is_inside name ≡ true
    → option_map disk_files (told_with below name bytes) ≡ told_with (option_map disk_files below) name bytes
told_disk_with None name bytes inside = refl
told_disk_with (Some files) name bytes inside = ap Some (disk_with files name bytes inside)

pub told_disk_without : (below : Option Files) (name : List ℕ)
    → option_map disk_files (told_without below name) ≡ told_without (option_map disk_files below) name
told_disk_without None name = refl
told_disk_without (Some files) name = ap Some (disk_without files name)

pub put_ok : (below new told : Option Files) (name bytes : List ℕ) → is_inside name ≡ true → option_map disk_files below ≡ told → new ≡ told_with below name bytes
    → option_map disk_files new ≡ told_with told name bytes
put_ok below new told name bytes inside is made =
    ap (option_map disk_files) made ∙ told_disk_with below name bytes inside ∙ ap (λ t. told_with t name bytes) is

pub put_err : (below new told : Option Files) (name bytes : List ℕ) (fault : DiskFault) → is_inside name ≡ true → option_map disk_files below ≡ told
    → IsOldOrNew below (told_with below name bytes) new fault → IsOldOrNew told (told_with told name bytes) (option_map disk_files new) fault
put_err below new told name bytes fault inside is (inl same) = inl (ap (option_map disk_files) same ∙ is)
put_err below new told name bytes fault inside is (inr made) = inr (made.0, put_ok below new told name bytes inside is made.1)

pub removal_ok : (below new told : Option Files) (name : List ℕ) → option_map disk_files below ≡ told → new ≡ told_without below name
    → option_map disk_files new ≡ told_without told name
removal_ok below new told name is made = ap (option_map disk_files) made ∙ told_disk_without below name ∙ ap (λ t. told_without t name) is

pub removal_err : (below new told : Option Files) (name : List ℕ) (fault : DiskFault) → option_map disk_files below ≡ told
    → IsOldOrNew below (told_without below name) new fault → IsOldOrNew told (told_without told name) (option_map disk_files new) fault
removal_err below new told name fault is (inl same) = inl (ap (option_map disk_files) same ∙ is)
removal_err below new told name fault is (inr made) = inr (made.0, removal_ok below new told name is made.1)

-- a removal of what isn't there
nothing_there : (held : Files) (name : List ℕ) → None ≡ file_at held name → without_file held name ≡ held
nothing_there held name none = same_files _ _ (λ q.
    get-remove nat_list_cmp_total held name q
    ∙ elim (eq_by_cmp by_name q name) as (λ e. eq_by_cmp by_name q name ≡ e → cond e None (get held q) ≡ get held q) [
      | true ↦ λ t. none ∙ ap (get held) (sym (one_key q name t))
      | false ↦ λ t. refl
    ] refl)

pub nothing_told : (told : Option Files) (name : List ℕ) → IfSome told (λ held. None ≡ file_at held name) → told ≡ told_without told name
nothing_told None name none = refl
nothing_told (Some held) name none = ap Some (sym (nothing_there held name none))

-- ---- what is known after each call

knows_put : (below : Option Files) (names doubts : NameSet) (name bytes : List ℕ) → is_inside name ≡ true → Knows below names doubts
    → Knows (told_with below name bytes) (insert names name tt) (remove doubts name)
knows_put None names doubts name bytes inside index = tt
knows_put (Some files) names doubts name bytes inside index =
    subst (λ held. IsIndex held (insert names name tt) (remove doubts name)) (sym (disk_with files name bytes inside)) (put_index (disk_files files) names doubts name bytes index)

pub after_put : (below new : Option Files) (names doubts : NameSet) (name bytes : List ℕ) → is_inside name ≡ true → Knows below names doubts
    → new ≡ told_with below name bytes → Knows new (insert names name tt) (remove doubts name)
after_put below new names doubts name bytes inside index is =
    subst (λ b. Knows b (insert names name tt) (remove doubts name)) (sym is) (knows_put below names doubts name bytes inside index)

doubts_put : (below : Option Files) (names doubts : NameSet) (name bytes : List ℕ) → is_inside name ≡ true → Knows below names doubts
    → Knows (told_with below name bytes) (insert names name tt) (insert doubts name tt)
doubts_put None names doubts name bytes inside index = tt
doubts_put (Some files) names doubts name bytes inside index =
    subst (λ held. IsIndex held (insert names name tt) (insert doubts name tt)) (sym (disk_with files name bytes inside)) (new_index (disk_files files) names doubts name bytes index)

doubts_old : (below : Option Files) (names doubts : NameSet) (name : List ℕ) → Knows below names doubts → Knows below (insert names name tt) (insert doubts name tt)
doubts_old None names doubts name index = tt
doubts_old (Some files) names doubts name index = old_index (disk_files files) names doubts name index

pub after_failed_put : (below new : Option Files) (names doubts : NameSet) (name bytes : List ℕ) (fault : DiskFault) → is_inside name ≡ true → Knows below names doubts
    → IsOldOrNew below (told_with below name bytes) new fault → Knows new (insert names name tt) (insert doubts name tt)
after_failed_put below new names doubts name bytes fault inside index (inl same) =
    subst (λ b. Knows b (insert names name tt) (insert doubts name tt)) (sym same) (doubts_old below names doubts name index)
after_failed_put below new names doubts name bytes fault inside index (inr is) =
    subst (λ b. Knows b (insert names name tt) (insert doubts name tt)) (sym is.1) (doubts_put below names doubts name bytes inside index)

knows_removal : (below : Option Files) (names doubts : NameSet) (name : List ℕ) → Knows below names doubts
    → Knows (told_without below name) (remove names name) (remove doubts name)
knows_removal None names doubts name index = tt
knows_removal (Some files) names doubts name index =
    subst (λ held. IsIndex held (remove names name) (remove doubts name)) (sym (disk_without files name)) (removed_index (disk_files files) names doubts name index)

pub after_removal : (below new : Option Files) (names doubts : NameSet) (name : List ℕ) → Knows below names doubts → new ≡ told_without below name
    → Knows new (remove names name) (remove doubts name)
after_removal below new names doubts name index is =
    subst (λ b. Knows b (remove names name) (remove doubts name)) (sym is) (knows_removal below names doubts name index)

doubts_removal : (below : Option Files) (names doubts : NameSet) (name : List ℕ) → contains_key names name ≡ true → Knows below names doubts
    → Knows (told_without below name) names (insert doubts name tt)
doubts_removal None names doubts name known index = tt
doubts_removal (Some files) names doubts name known index =
    subst (λ held. IsIndex held names (insert doubts name tt)) (sym (disk_without files name)) (left_index (disk_files files) names doubts name known index)

doubts_kept : (below : Option Files) (names doubts : NameSet) (name : List ℕ) → contains_key names name ≡ true → Knows below names doubts
    → Knows below names (insert doubts name tt)
doubts_kept None names doubts name known index = tt
doubts_kept (Some files) names doubts name known index = kept_index (disk_files files) names doubts name known index

pub after_failed_removal : (below new : Option Files) (names doubts : NameSet) (name : List ℕ) (fault : DiskFault) → contains_key names name ≡ true → Knows below names doubts
    → IsOldOrNew below (told_without below name) new fault → Knows new names (insert doubts name tt)
after_failed_removal below new names doubts name fault known index (inl same) =
    subst (λ b. Knows b names (insert doubts name tt)) (sym same) (doubts_kept below names doubts name known index)
after_failed_removal below new names doubts name fault known index (inr is) =
    subst (λ b. Knows b names (insert doubts name tt)) (sym is.1) (doubts_removal below names doubts name known index)

there_known : (below : Option Files) (names doubts : NameSet) (name : List ℕ) → IfSome below (λ files. true ≡ contains_key (disk_files files) name)
    → Knows below names doubts → Knows below names (remove doubts name)
there_known None names doubts name is index = tt
there_known (Some files) names doubts name is index = sure_index (disk_files files) names doubts name (sym is) index

gone_known : (below : Option Files) (names doubts : NameSet) (name : List ℕ) → IfSome below (λ files. false ≡ contains_key (disk_files files) name)
    → Knows below names doubts → Knows below (remove names name) (remove doubts name)
gone_known None names doubts name is index = tt
gone_known (Some files) names doubts name is index = gone_index (disk_files files) names doubts name (sym is) index

pub still_knows : (below new : Option Files) (names doubts : NameSet) → new ≡ below → Knows below names doubts → Knows new names doubts
still_knows below new names doubts same index = subst (λ b. Knows b names doubts) (sym same) index

-- a doubt that is settled: the name has a file
pub settled_there : (below new : Option Files) (names doubts : NameSet) (name : List ℕ) → new ≡ below → IfSome below (λ files. true ≡ contains_key (disk_files files) name)
    → Knows below names doubts → Knows new names (remove doubts name)
settled_there below new names doubts name same is index = subst (λ b. Knows b names (remove doubts name)) (sym same) (there_known below names doubts name is index)

-- or none
pub settled_gone : (below new : Option Files) (names doubts : NameSet) (name : List ℕ) → new ≡ below → IfSome below (λ files. false ≡ contains_key (disk_files files) name)
    → Knows below names doubts → Knows new (remove names name) (remove doubts name)
settled_gone below new names doubts name same is index = subst (λ b. Knows b (remove names name) (remove doubts name)) (sym same) (gone_known below names doubts name is index)
