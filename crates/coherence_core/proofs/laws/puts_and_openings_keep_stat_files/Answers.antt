use Rattle.docroot_format.specs.Names.{epoch_name}
use Rattle.docroot_format.specs.Texts.{epoch_text}
use Rattle.cache_files.specs.Epochs.{files_with_epoch}
use Rattle.cache_files.specs.Pages.{files_with_page, page_body_name, page_head_name}
use Rattle.cache_files.proofs.PageFiles.{FileLaws, put_keeps}
use Rattle.docroot_changes.proofs.ToldFiles.{told_made, told_open, told_put}
use Rattle.coherence_core.specs.Holds.{KeepsStatFiles}
use Rattle.coherence_core.proofs.StatFileLemmas.{kept_beside_page, stat_is_no}
use Rattle.coherence_core.proofs.laws.puts_and_openings_keep_stat_files.Goals as goal

pub returns-clause-put : goal.returns-clause-put
returns-clause-put c = λ before after key stamp answer good made.
    let named = c.files_have_names.ensures in
    let tells = c.names_tell_their_files.ensures in
    let laws : FileLaws = record { written = named.written; beside = named.beside; removed = named.removed; left = named.left } in
    told_made KeepsStatFiles (λ old. files_with_page old key stamp answer) before after
    (λ old. kept_beside_page old (files_with_page old key stamp answer) key (tells.apart (page_head_name key) (tells.head key good)) (tells.apart (page_body_name key) (tells.body key good)) (put_keeps laws old key stamp answer))
    made

pub returns-clause-put_failed : goal.returns-clause-put_failed
returns-clause-put_failed c = λ asked made before after key stamp answer fault good left.
    let tells = c.names_tell_their_files.ensures in
    told_put KeepsStatFiles asked made before after key stamp answer fault
    (λ old new h. kept_beside_page old new key (tells.apart (page_head_name key) (tells.head key good)) (tells.apart (page_body_name key) (tells.body key good)) (c.a_failed_put_leaves_whole_pages.ensures.files old new key stamp answer (asked, (made, (fault, h)))))
    left

pub returns-clause-opened : goal.returns-clause-opened
returns-clause-opened c = λ before after epoch made.
    told_made KeepsStatFiles (λ old. files_with_epoch old epoch) before after
    (λ old name is. c.files_have_names.ensures.beside old epoch_name name (epoch_text epoch) (stat_is_no name epoch_name is c.names_tell_their_files.ensures.epoch_stat))
    made

pub returns-clause-opening_failed : goal.returns-clause-opening_failed
returns-clause-opening_failed c = λ asked made before after fault left.
    told_open KeepsStatFiles asked made before after fault
    (λ old new h name is. c.a_failed_opening_leaves_the_old_number_or_the_next.ensures.beside old new fault name (asked, (made, h)) (stat_is_no name epoch_name is c.names_tell_their_files.ensures.epoch_stat))
    left
