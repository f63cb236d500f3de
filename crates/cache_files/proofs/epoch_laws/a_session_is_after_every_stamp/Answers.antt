use Rattle.std.proofs.Common.{◌≡◌, ◌<◌, ◌^◌, ⊎_elim, sym, subst, ◌∙◌, ap, arith}
use Rattle.std.specs.Prelude.{option_and_then, unwrap_or}
use Rattle.docroot_format.specs.Names.{epoch_name}
use Rattle.docroot_format.specs.Readings.{epoch_of}
use Rattle.docroot_format.specs.Texts.{epoch_text}
use Rattle.cache_files.specs.Epochs.{epoch_held, files_with_epoch}
use Rattle.cache_files.specs.HeldStamps.{HasNoLaterStamp}
use Rattle.cache_files.proofs.HeldLemmas.{other_file}
use Rattle.cache_files.proofs.NextEpochs.{above, next_epoch_is_small}
use Rattle.cache_files.proofs.epoch_laws.a_session_is_after_every_stamp.Goals as goal

pub returns-clause-above : goal.returns-clause-above
returns-clause-above c = λ files epoch stamp before next held. above files epoch stamp.epoch next (before stamp held)

pub returns-clause-opened : goal.returns-clause-opened
returns-clause-opened c = λ files epoch next before.
    let new = files_with_epoch files epoch in
    let small : epoch < 2 ^ 64 = next_epoch_is_small files epoch c.what_reads_is_its_text.ensures.fits next in
    let more : epoch_held files < epoch = above files epoch (epoch_held files) next (omega arith) in
    let is : epoch_held new ≡ epoch =
    ap (λ found. unwrap_or (option_and_then epoch_of found) 0) (c.files_have_names.ensures.written files epoch_name (epoch_text epoch))
    ∙ ap (λ read. unwrap_or read 0) (c.texts_are_read_back.ensures.epoch epoch (omega (arith, more)) small) in
    other_file files new epoch_name (λ other differ. c.files_have_names.ensures.beside files epoch_name other (epoch_text epoch) differ)
    (λ key page e. c.names_are_apart.ensures.epoch_head key page (sym e))
    (λ folder text e. c.names_are_apart.ensures.epoch_stat folder text e) (omega (arith, more, is)) before

pub returns-clause-failed : goal.returns-clause-failed
returns-clause-failed c = λ files new fault left before.
    ⊎_elim (λ same. subst HasNoLaterStamp (sym same) before)
    (λ opened. subst HasNoLaterStamp (sym opened.1.1.1) (returns-clause-opened c files opened.1.0 opened.1.1.0 before)) (c.a_failed_opening_leaves_the_old_number_or_the_next.ensures.whole files new fault left)
