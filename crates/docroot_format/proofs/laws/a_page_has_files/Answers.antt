use Rattle.cover_rules.specs.Pages.{page_path}
use Rattle.docroot_format.proofs.PagePlaces.{page_has_place, page_has_folder}
use Rattle.docroot_format.proofs.laws.a_page_has_files.Goals as goal

pub returns-clause-page : goal.returns-clause-page
returns-clause-page c = λ key page. page_has_place (page_path key) key page.own

pub returns-clause-folder : goal.returns-clause-folder
returns-clause-folder c = λ key page. page_has_folder (page_path key) key page.own
