use Rattle.std.proofs.Common.{IsTrue, List, ℕ, codes, ◌++◌, ap, subst, sym}
use Rattle.cover_rules.specs.Pages.{page_path}
use Rattle.docroot_format.specs.Names.{folder_name, have_names}
use Rattle.docroot_format.proofs.Folders.{page_file, page_folder, page_stat_folder, touched_folder}
use Rattle.docroot_format.proofs.laws.folders_are_mangled.Goals as goal

pub returns-clause-page : goal.returns-clause-page
returns-clause-page c = λ key page. page_folder (page_path key) key (c.mangling_and_unmangling.ensures.again (page_path key)) page.own

pub returns-clause-file : goal.returns-clause-file
returns-clause-file c = λ key page. page_file (page_path key) key (c.mangling_and_unmangling.ensures.again (page_path key)) page.own

pub returns-clause-stat : goal.returns-clause-stat
returns-clause-stat c = λ level key page. page_stat_folder level (page_path key) key (c.mangling_and_unmangling.ensures.again (page_path key)) page.own

pub returns-clause-touched : goal.returns-clause-touched
returns-clause-touched c = λ level inv folder. touched_folder level inv folder (c.mangling_and_unmangling.ensures.again inv.handle)

pub returns-clause-names : goal.returns-clause-names
returns-clause-names c = λ folder is. subst (λ (f : List (List ℕ)). IsTrue (have_names f)) (sym is.0) is.1

pub returns-clause-one : goal.returns-clause-one
returns-clause-one c = λ folder. ap (λ (f : List (List ℕ)). folder_name f ++ codes ".stat") (c.mangling_and_unmangling.ensures.again folder)
