use Rattle.std.proofs.Common.{◌≡◌, ◌⊎◌, inl, inr, ⊎_elim, List, Option, Some, Ok, sym, ◌∙◌, ap, arith}
use Rattle.std.proofs.lemmas.Option.{same_Some}
use Rattle.std.specs.Prelude.{option_and_then, unwrap_or}
use Rattle.sp_outside.specs.Calls.{Call}
use Rattle.sp_outside.specs.Files.{Files, file_at}
use Rattle.docroot_format.specs.Names.{epoch_name}
use Rattle.docroot_format.specs.Readings.{epoch_of}
use Rattle.docroot_format.specs.Texts.{epoch_text}
use Rattle.cache_files.specs.Epochs.{IsOpenLeft, IsOpened, epoch_held, files_with_epoch}
use Rattle.cache_files.specs.declared.epoch.OpenFault.{OpenFault}
use Rattle.cache_files.specs.declared.epoch.OpenFault.TheVariants.{Disk}
use Rattle.cache_files.proofs.NextEpochs.{above, next_epoch_is_small}
use Rattle.cache_files.proofs.epoch_laws.a_failed_opening_leaves_the_old_number_or_the_next.Goals as goal

abbrev Opened : Files → Files → OpenFault → Type 0
Opened files new fault = (new ≡ files) ⊎ ((fault ≡ Disk) × IsOpened files new)

left : (asked made : Option (List Call)) (files new : Files) (fault : OpenFault) → IsOpenLeft asked made (Some files) (Some new) fault → Opened files new fault
left asked made files new fault h =
    ⊎_elim (λ l. inl (same_Some new files l.1))
    (λ more. ⊎_elim (λ l. inl (same_Some new files l.1))
    (λ l. ⊎_elim (λ same. inl (same_Some new files same)) (λ w. inr (w.0, (l.0, (l.1.0, same_Some new (files_with_epoch files l.0) w.1)))) l.1.1.1) more) h

pub returns-clause-whole : goal.returns-clause-whole
returns-clause-whole c = λ files new fault h. left h.0 h.1.0 files new fault h.1.1

pub returns-clause-number : goal.returns-clause-number
returns-clause-number c = λ files new fault h.
    ⊎_elim (λ same. inl (ap epoch_held same))
    (λ w.
    let epoch = w.1.0 in
    let next = w.1.1.0 in
    let held : epoch_held (files_with_epoch files epoch) ≡ epoch =
    ap (λ found. unwrap_or (option_and_then epoch_of found) 0) (c.files_have_names.ensures.written files epoch_name (epoch_text epoch))
    ∙ ap (λ read. unwrap_or read 0) (c.texts_are_read_back.ensures.epoch epoch (above files epoch 0 next (omega arith)) (next_epoch_is_small files epoch c.what_reads_is_its_text.ensures.fits next)) in
    inr (next ∙ ap (λ n. Ok n) (sym (ap epoch_held w.1.1.1 ∙ held)))) (left h.0 h.1.0 files new fault h.1.1)

pub returns-clause-beside : goal.returns-clause-beside
returns-clause-beside c = λ files new fault name h differ.
    ⊎_elim (λ same. ap (λ f. file_at f name) same)
    (λ w. ap (λ f. file_at f name) w.1.1.1 ∙ c.files_have_names.ensures.beside files epoch_name name (epoch_text w.1.0) differ) (left h.0 h.1.0 files new fault h.1.1)
