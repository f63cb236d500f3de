use Rattle.std.proofs.Common.{⊎_elim, sym, ◌∙◌, ap}
use Rattle.std.proofs.lemmas.Option.{none-some}
use Rattle.std.specs.FinMap.{empty, get-empty}
use Rattle.std.specs.Prelude.{option_and_then, unwrap_or}
use Rattle.sp_base.specs.Names.{by_name}
use Rattle.docroot_format.specs.Names.{epoch_name, stat_name}
use Rattle.docroot_format.specs.Readings.{epoch_of, stat_of}
use Rattle.cache_files.specs.Epochs.{epoch_after}
use Rattle.cache_files.specs.HeldStamps.{IsFolderStamp, IsPageStamp}
use Rattle.cache_files.specs.Pages.{page_head_name}
use Rattle.cache_files.proofs.PageFiles.{headless}
use Rattle.cache_files.proofs.epoch_laws.empty_files_hold_no_page.Goals as goal

pub returns-clause-page : goal.returns-clause-page
returns-clause-page c = λ key. headless empty key (get-empty by_name (page_head_name key))

pub returns-clause-later : goal.returns-clause-later
returns-clause-later c = λ stamp held.
    ⊎_elim (λ (page : IsPageStamp empty stamp). absurd (none-some page.1.1.0 (sym (headless empty page.0 (get-empty by_name (page_head_name page.0))).head ∙ page.1.1.1.0)))
    (λ (folder : IsFolderStamp empty stamp). absurd (none-some stamp (sym (ap (option_and_then stat_of) (get-empty by_name (stat_name folder.0))) ∙ folder.1.1.1))) held

pub returns-clause-epoch : goal.returns-clause-epoch
returns-clause-epoch c = ap (λ found. unwrap_or (option_and_then epoch_of found) 0) (get-empty by_name epoch_name)

pub returns-clause-next : goal.returns-clause-next
returns-clause-next c = ap epoch_after (get-empty by_name epoch_name)
