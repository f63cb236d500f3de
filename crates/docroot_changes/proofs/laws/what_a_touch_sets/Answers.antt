use Rattle.std.proofs.Common.{◌≡◌, Err, inl, inr, ⊎_elim, refl, sym, ◌∙◌, ap, Some}
use Rattle.std.proofs.lemmas.Result.{IfErr-weaker}
use Rattle.docroot_format.specs.Faults.{IsLeftByFault}
use Rattle.docroot_format.specs.Names.{epoch_name, stat_name}
use Rattle.docroot_format.specs.Texts.{stat_text}
use Rattle.docroot_format.specs.declared.fault.FileFault.TheVariants.{Disk}
use Rattle.cache_files.specs.Epochs.{epoch_after}
use Rattle.cache_files.specs.HeldStamps.{KeepsOrder}
use Rattle.stat_files.specs.Stamps.{files_with_stamp, stamp_at, told_with_stamp}
use Rattle.docroot_changes.specs.Changes.{AddsNames, BesideStamp, MayTouch, StampSet, Told}
use Rattle.docroot_changes.proofs.CountedNames.{one_file, same_files}
use Rattle.docroot_changes.proofs.KeptHere.{same_beside, touch_left}
use Rattle.docroot_changes.proofs.ToldFiles.{on_ok, told_made, told_touch}
use Rattle.docroot_changes.proofs.laws.what_a_touch_sets.Goals as goal

pub returns-clause-stopped : goal.returns-clause-stopped
returns-clause-stopped c = λ result before after folder stamp may epoch count stopped.
    let failed = c.a_failed_touch_leaves_the_old_stamp_or_the_new.ensures in
    let text = stat_text stamp in
    IfErr-weaker result (IsLeftByFault before (told_with_stamp before folder stamp) after) (λ fault. Told (MayTouch folder stamp fault) before after)
    (λ fault left.
    told_touch (MayTouch folder stamp fault) before after folder stamp fault
    (λ old new h.
    let whole = failed.whole old new folder stamp fault h in
    let changed : BesideStamp folder old (files_with_stamp old folder stamp) = record {
      pages = c.pages_stand_apart.ensures.touched old folder text may.bytes;
      stamps = λ other also differ. c.stamps_have_files_of_their_own.ensures.touched old folder text may.bytes other also.bytes (λ e. differ (sym also.docroot.0 ∙ e ∙ may.docroot.0));
      number = record {
        held = c.pages_stand_apart.ensures.epoch old folder text may.bytes;
        next = ap epoch_after (c.files_have_names.ensures.beside old (stat_name folder) epoch_name text (λ e. c.names_are_apart.ensures.epoch_stat folder may.bytes (sym e)));
      };
    } in
    record {
      here = ⊎_elim (λ same. inl (ap (λ f. stamp_at f folder) same)) (λ w. inr (w.0, ap (λ f. stamp_at f folder) w.1 ∙ c.a_stamp_is_read_back.ensures old folder stamp epoch count)) whole;
      beside = touch_left (BesideStamp folder old) old new folder stamp fault (same_beside folder old) changed whole;
      order = λ session. touch_left (KeepsOrder old) old new folder stamp fault (λ held. held)
          (c.no_stamp_is_later_than_the_session.ensures.touched old folder stamp (record { bytes = may.bytes; epoch = epoch; count = count; session = session })) whole;
      names = touch_left (AddsNames 1 old) old new folder stamp fault (same_files old 1) (one_file old (stat_name folder) text) whole;
    }) left) stopped

pub returns-clause-touched : goal.returns-clause-touched
returns-clause-touched c = λ result before after folder stamp may epoch count ok.
    on_ok result (after ≡ told_with_stamp before folder stamp) (Told (StampSet folder stamp) before after)
    (λ e.
    told_made (StampSet folder stamp) (λ old. files_with_stamp old folder stamp) before after
    (λ old.
    let left : MayTouch folder stamp Disk old (files_with_stamp old folder stamp) =
    returns-clause-stopped c (Err Disk) (Some old) (Some (files_with_stamp old folder stamp)) folder stamp may epoch count (inr (refl, refl)) in
    record { here = c.a_stamp_is_read_back.ensures old folder stamp epoch count; beside = left.beside; order = left.order; names = left.names }) e) ok
