use Rattle.std.proofs.Common.{◌≡◌, Err, inr, refl, ap, option_map, Option, List, Some, None}
use Rattle.std.proofs.lemmas.Result.{IfErr-weaker}
use Rattle.sp_outside.specs.Calls.{Call}
use Rattle.docroot_format.specs.Names.{epoch_name}
use Rattle.docroot_format.specs.declared.fault.FileFault.TheVariants.{Disk}
use Rattle.cache_files.specs.Changes.{LeftByDrop}
use Rattle.cache_files.specs.Epochs.{epoch_after}
use Rattle.cache_files.specs.Pages.{IsDropLeft, files_without_page, told_without_page}
use Rattle.stat_files.specs.Stamps.{stamp_in}
use Rattle.docroot_changes.specs.Changes.{MayDrop, PageGone, Told}
use Rattle.docroot_changes.proofs.CountedNames.{drop_names}
use Rattle.docroot_changes.proofs.KeptHere.{drop_here}
use Rattle.docroot_changes.proofs.ToldFiles.{on_ok, told_drop, told_made}
use Rattle.docroot_changes.proofs.laws.what_a_drop_sets.Goals as goal

pub returns-clause-stopped : goal.returns-clause-stopped
returns-clause-stopped c = λ result asked made before after key page stopped.
    let failed = c.a_failed_drop_leaves_whole_pages.ensures in
    let apart = c.names_are_apart.ensures in
    IfErr-weaker result (IsDropLeft asked made before after key) (λ fault. Told (MayDrop key fault) before after)
    (λ fault left.
    told_drop (MayDrop key fault) asked made before after key fault
    (λ old new h.
    let l : LeftByDrop old new key = (asked, (made, (fault, h))) in
    let stamps = failed.stamps old new key page l in
    record {
      here = drop_here asked made old new key fault (failed.page old new key l) h;
      beside = record {
        pages = failed.others old new key page l;
        stamps = λ folder bytes. ap (option_map stamp_in) (stamps.stats folder bytes);
        number = record { held = stamps.epoch; next = ap epoch_after (failed.files old new key l epoch_name (apart.epoch_head key page) (apart.epoch_body key page)) };
      };
      order = c.no_stamp_is_later_than_the_session.ensures.drop_failed old new key page l;
      names = drop_names asked made old new key fault h;
    }) left) stopped

pub returns-clause-dropped : goal.returns-clause-dropped
returns-clause-dropped c = λ result before after key page ok.
    on_ok result (after ≡ told_without_page before key) (Told (PageGone key) before after)
    (λ e.
    told_made (PageGone key) (λ old. files_without_page old key) before after
    (λ old.
    let unknown : Option (List Call) = None in
    let may : MayDrop key Disk old (files_without_page old key) =
    returns-clause-stopped c (Err Disk) unknown unknown (Some old) (Some (files_without_page old key)) key page (inr (inr (refl, (refl, inr (refl, refl))))) in
    record { here = c.pages_have_files_of_their_own.ensures.dropped old key; beside = may.beside; order = may.order; names = may.names }) e) ok
