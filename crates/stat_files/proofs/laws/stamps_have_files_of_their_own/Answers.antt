use Rattle.std.proofs.Common.{sym, ap, option_map}
use Rattle.docroot_format.specs.Names.{stat_name}
use Rattle.stat_files.specs.Stamps.{stamp_in}
use Rattle.stat_files.proofs.laws.stamps_have_files_of_their_own.Goals as goal

pub returns-clause-touched : goal.returns-clause-touched
returns-clause-touched c = λ files folder bytes text other more differ.
    ap (option_map stamp_in) (c.files_have_names.ensures.beside files (stat_name folder) (stat_name other) bytes (λ e. differ (c.names_are_apart.ensures.stats other folder more text e)))

pub returns-clause-written : goal.returns-clause-written
returns-clause-written c = λ files folder name bytes differ. ap (option_map stamp_in) (c.files_have_names.ensures.beside files name (stat_name folder) bytes (λ e. differ (sym e)))

pub returns-clause-removed : goal.returns-clause-removed
returns-clause-removed c = λ files folder name differ. ap (option_map stamp_in) (c.files_have_names.ensures.left files name (stat_name folder) (λ e. differ (sym e)))
