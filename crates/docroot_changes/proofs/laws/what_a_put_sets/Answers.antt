use Rattle.std.proofs.Common.{◌≡◌, Err, inr, refl, ap, subst, option_map, Option, List, Some, None}
use Rattle.std.proofs.lemmas.Result.{IfErr-weaker}
use Rattle.sp_outside.specs.Calls.{Call}
use Rattle.docroot_format.specs.Names.{epoch_name}
use Rattle.docroot_format.specs.declared.fault.FileFault.TheVariants.{Disk}
use Rattle.cache_files.specs.Changes.{LeftByPut}
use Rattle.cache_files.specs.Epochs.{epoch_after}
use Rattle.cache_files.specs.Pages.{IsPutLeft, files_with_page, told_with_page}
use Rattle.stat_files.specs.Stamps.{stamp_in}
use Rattle.docroot_changes.specs.Changes.{MayPut, PageSet, Told}
use Rattle.docroot_changes.proofs.CountedNames.{put_names}
use Rattle.docroot_changes.proofs.KeptHere.{put_here}
use Rattle.docroot_changes.proofs.ToldFiles.{on_ok, told_made, told_put}
use Rattle.docroot_changes.proofs.laws.what_a_put_sets.Goals as goal

pub returns-clause-stopped : goal.returns-clause-stopped
returns-clause-stopped c = λ result asked made before after key stamp answer page put stopped.
    let failed = c.a_failed_put_leaves_whole_pages.ensures in
    let apart = c.names_are_apart.ensures in
    IfErr-weaker result (IsPutLeft asked made before after key stamp answer) (λ fault. Told (MayPut key stamp answer fault) before after)
    (λ fault left.
    told_put (MayPut key stamp answer fault) asked made before after key stamp answer fault
    (λ old new h.
    let l : LeftByPut old new key stamp answer = (asked, (made, (fault, h))) in
    let stamps = failed.stamps old new key stamp answer page l in
    record {
      here = put_here old new key stamp answer fault (c.a_page_is_read_back.ensures old key stamp answer put)
          (λ e. c.a_put_out_of_memory_leaves_the_old_page_or_none.ensures old new key stamp answer (asked, (made, subst (λ f. IsPutLeft asked made (Some old) (Some new) key stamp answer f) e h)))
          (failed.page old new key stamp answer l);
      beside = record {
        pages = failed.others old new key stamp answer page l;
        stamps = λ folder bytes. ap (option_map stamp_in) (stamps.stats folder bytes);
        number = record { held = stamps.epoch; next = ap epoch_after (failed.files old new key stamp answer l epoch_name (apart.epoch_head key page) (apart.epoch_body key page)) };
      };
      order = λ session. c.no_stamp_is_later_than_the_session.ensures.put_failed old new key stamp answer (record { page = page; put = put; session = session }) l;
      names = put_names asked made old new key stamp answer fault h;
    }) left) stopped

pub returns-clause-put : goal.returns-clause-put
returns-clause-put c = λ result before after key stamp answer page put ok.
    on_ok result (after ≡ told_with_page before key stamp answer) (Told (PageSet key stamp answer) before after)
    (λ e.
    told_made (PageSet key stamp answer) (λ old. files_with_page old key stamp answer) before after
    (λ old.
    let unknown : Option (List Call) = None in
    let may : MayPut key stamp answer Disk old (files_with_page old key stamp answer) =
    returns-clause-stopped c (Err Disk) unknown unknown (Some old) (Some (files_with_page old key stamp answer)) key stamp answer page put (inr (inr (inr (refl, inr (refl, refl))))) in
    record { here = c.a_page_is_read_back.ensures old key stamp answer put; beside = may.beside; order = may.order; names = may.names }) e) ok
