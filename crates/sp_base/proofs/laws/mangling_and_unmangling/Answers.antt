use Rattle.sp_base.proofs.MangledLemmas.{back, one, again, fits, mangled_path}
use Rattle.sp_base.proofs.PathBytes.{all_mangled}
use Rattle.sp_base.proofs.laws.mangling_and_unmangling.Goals as goal

pub returns-clause-back : goal.returns-clause-back
returns-clause-back c = back

pub returns-clause-one : goal.returns-clause-one
returns-clause-one c = one

pub returns-clause-again : goal.returns-clause-again
returns-clause-again c = again

pub returns-clause-fits : goal.returns-clause-fits
returns-clause-fits c = fits

pub returns-clause-path : goal.returns-clause-path
returns-clause-path c = mangled_path

pub returns-clause-bytes : goal.returns-clause-bytes
returns-clause-bytes c = all_mangled
