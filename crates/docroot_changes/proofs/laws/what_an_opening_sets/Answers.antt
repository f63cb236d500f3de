use Rattle.std.proofs.Common.{◌≡◌, inl, inr, ⊎_elim, refl, sym, ◌∙◌, ap, arith, subst, option_map, Some, Ok}
use Rattle.std.proofs.lemmas.Result.{IfErr-weaker}
use Rattle.std.specs.Prelude.{IfSome, option_and_then, unwrap_or}
use Rattle.docroot_format.specs.Names.{epoch_name, stat_name}
use Rattle.docroot_format.specs.Readings.{epoch_of}
use Rattle.docroot_format.specs.Texts.{epoch_text}
use Rattle.cache_files.specs.Epochs.{LeftByOpening, after_epoch, epoch_after, IsOpenLeft, files_with_epoch, next_epoch, told_with_epoch}
use Rattle.cache_files.proofs.NextEpochs.{next_epoch_is_small}
use Rattle.stat_files.specs.Stamps.{stamp_in}
use Rattle.docroot_changes.specs.Changes.{AddsNames, BesideNumber, IsNextNumber, MayOpen, NumberSet, Told}
use Rattle.docroot_changes.proofs.CountedNames.{number_again, one_file, same_files}
use Rattle.docroot_changes.proofs.KeptHere.{same_number}
use Rattle.docroot_changes.proofs.NextNumber.{next_more}
use Rattle.docroot_changes.proofs.ToldFiles.{if_ok, told_open, told_when}
use Rattle.docroot_changes.proofs.laws.what_an_opening_sets.Goals as goal

pub returns-clause-opened : goal.returns-clause-opened
returns-clause-opened c = λ result before after counted written.
    if_ok result (λ epoch. IfSome before (λ files. next_epoch files ≡ Ok epoch)) (λ epoch. after ≡ told_with_epoch before epoch) (λ epoch. Told (NumberSet epoch) before after)
    (λ epoch is e.
    told_when (NumberSet epoch) (λ files. next_epoch files ≡ Ok epoch) (λ old. files_with_epoch old epoch) before after
    (λ old next.
    let named = c.files_have_names.ensures in
    let text = epoch_text epoch in
    let more = next_more old epoch next in
    let read = c.texts_are_read_back.ensures.epoch epoch (omega (arith, more)) (next_epoch_is_small old epoch c.what_reads_is_its_text.ensures.fits next) in
    record {
      here = record {
        held = ap (λ found. unwrap_or (option_and_then epoch_of found) 0) (named.written old epoch_name text) ∙ ap (λ r. unwrap_or r 0) read;
        more = more;
        next = ap epoch_after (named.written old epoch_name text) ∙ ap after_epoch read;
      };
      beside = record {
        pages = c.pages_stand_apart.ensures.numbered old text;
        stamps = λ folder bytes. ap (option_map stamp_in) (named.beside old epoch_name (stat_name folder) text (c.names_are_apart.ensures.epoch_stat folder bytes));
      };
      order = c.a_session_is_after_every_stamp.ensures.opened old epoch next;
      names = one_file old epoch_name text;
      again = number_again old text;
    }) is e) counted written

pub returns-clause-stopped : goal.returns-clause-stopped
returns-clause-stopped c = λ result asked made before after stopped.
    IfErr-weaker result (IsOpenLeft asked made before after) (λ fault. Told (MayOpen fault) before after)
    (λ fault left.
    told_open (MayOpen fault) asked made before after fault
    (λ old new h.
    let l : LeftByOpening old new fault = (asked, (made, h)) in
    let order = c.a_session_is_after_every_stamp.ensures.failed old new fault l in
    ⊎_elim
    (λ same. record {
      here = inl (same_number old new same);
      beside = subst (BesideNumber old) (sym same) (record { pages = λ key page. record { page = refl; head = refl }; stamps = λ folder bytes. refl });
      order = order;
      names = subst (AddsNames 1 old) (sym same) (same_files old 1);
      again = λ held. subst (AddsNames 0 old) (sym same) (same_files old 0);
    })
    (λ w.
    let epoch = w.1.0 in
    let next = w.1.1.0 in
    let set : NumberSet epoch old new = returns-clause-opened c (Ok epoch) (Some old) (Some new) next (ap (λ f. Some f) w.1.1.1) in
    record {
      here = inr (w.0, subst (λ n. IsNextNumber n old new) set.here.more set.here);
      beside = set.beside;
      order = order;
      names = set.names;
      again = set.again;
    }) (c.a_failed_opening_leaves_the_old_number_or_the_next.ensures.whole old new fault l)) left) stopped
