use Rattle.std.proofs.Common.{◌&&◌, sym, ap, option_map}
use Rattle.cover_rules.specs.Coverage.{stat_depth_of, stat_folder}
use Rattle.cover_rules.proofs.PageLemmas.{taken_are_bytes}
use Rattle.docroot_format.specs.Names.{stat_name}
use Rattle.docroot_format.specs.Texts.{stat_text}
use Rattle.stat_files.specs.Outdated.{outdates_page}
use Rattle.stat_files.specs.Stamps.{stamp_in}
use Rattle.stat_files.proofs.laws.a_touch_outdates_what_is_not_newer.Goals as goal

pub returns-clause-touched : goal.returns-clause-touched
returns-clause-touched c = λ level files key stamp page epoch count.
    ap (λ o. outdates_page o page) (c.a_stamp_is_read_back.ensures files (stat_folder level key) stamp epoch count)

pub returns-clause-beside : goal.returns-clause-beside
returns-clause-beside c = λ level auto files key folder stamp page own more differ.
    ap (λ o. auto && outdates_page (option_map stamp_in o) page)
    (c.files_have_names.ensures.beside files (stat_name folder) (stat_name (stat_folder level key)) (stat_text stamp)
    (λ e. differ (sym (c.names_are_apart.ensures.stats (stat_folder level key) folder (taken_are_bytes (stat_depth_of level key) key.folder own.folder_bytes) more e))))
