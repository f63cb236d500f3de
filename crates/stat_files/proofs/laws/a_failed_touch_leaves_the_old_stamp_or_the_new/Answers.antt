use Rattle.std.proofs.Common.{◌≡◌, ◌⊎◌, inl, inr, ⊎_elim, ℕ, List, Some, ◌∙◌, ap}
use Rattle.std.proofs.lemmas.Option.{same_Some}
use Rattle.sp_outside.specs.Files.{Files, file_at, told_with, with_file}
use Rattle.docroot_format.specs.Faults.{IsLeftByFault}
use Rattle.docroot_format.specs.Names.{stat_name}
use Rattle.docroot_format.specs.Texts.{stat_text}
use Rattle.docroot_format.specs.declared.fault.FileFault.{FileFault}
use Rattle.docroot_format.specs.declared.fault.FileFault.TheVariants.{Disk}
use Rattle.stat_files.specs.Stamps.{stamp_at}
use Rattle.stat_files.proofs.laws.a_failed_touch_leaves_the_old_stamp_or_the_new.Goals as goal

left : (files new : Files) (name bytes : List ℕ) (fault : FileFault) → IsLeftByFault (Some files) (told_with (Some files) name bytes) (Some new) fault
    → (new ≡ files) ⊎ ((fault ≡ Disk) × (new ≡ with_file files name bytes))
left files new name bytes fault h = ⊎_elim (λ same. inl (same_Some new files same)) (λ w. inr (w.0, same_Some new (with_file files name bytes) w.1)) h

pub returns-clause-whole : goal.returns-clause-whole
returns-clause-whole c = λ files new folder stamp fault h. left files new (stat_name folder) (stat_text stamp) fault h

pub returns-clause-stamp : goal.returns-clause-stamp
returns-clause-stamp c = λ files new folder stamp fault epoch count h.
    ⊎_elim (λ same. inl (ap (λ f. stamp_at f folder) same))
    (λ w. inr (ap (λ f. stamp_at f folder) w.1 ∙ c.a_stamp_is_read_back.ensures files folder stamp epoch count))
    (left files new (stat_name folder) (stat_text stamp) fault h)

pub returns-clause-others : goal.returns-clause-others
returns-clause-others c = λ files new folder stamp fault text h other more differ.
    ⊎_elim (λ same. ap (λ f. stamp_at f other) same)
    (λ w. ap (λ f. stamp_at f other) w.1 ∙ c.stamps_have_files_of_their_own.ensures.touched files folder (stat_text stamp) text other more differ)
    (left files new (stat_name folder) (stat_text stamp) fault h)

pub returns-clause-beside : goal.returns-clause-beside
returns-clause-beside c = λ files new folder stamp fault name h differ.
    ⊎_elim (λ same. ap (λ f. file_at f name) same)
    (λ w. ap (λ f. file_at f name) w.1 ∙ c.files_have_names.ensures.beside files (stat_name folder) name (stat_text stamp) differ)
    (left files new (stat_name folder) (stat_text stamp) fault h)
