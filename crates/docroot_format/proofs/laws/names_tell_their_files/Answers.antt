use Rattle.std.proofs.Common.{refl}
use Rattle.cover_rules.specs.Pages.{page_path}
use Rattle.docroot_format.proofs.FileRoles.{body_is_page_file, head_is_page_file, page_no_stat, stat_is_stat_file}
use Rattle.docroot_format.proofs.laws.names_tell_their_files.Goals as goal

pub returns-clause-body : goal.returns-clause-body
returns-clause-body c = λ key page. body_is_page_file (page_path key) key page.folder page.own

pub returns-clause-head : goal.returns-clause-head
returns-clause-head c = λ key page. head_is_page_file (page_path key) key page.folder page.own

pub returns-clause-stat : goal.returns-clause-stat
returns-clause-stat c = stat_is_stat_file

pub returns-clause-apart : goal.returns-clause-apart
returns-clause-apart c = page_no_stat

pub returns-clause-epoch_page : goal.returns-clause-epoch_page
returns-clause-epoch_page c = refl

pub returns-clause-epoch_stat : goal.returns-clause-epoch_stat
returns-clause-epoch_stat c = refl
