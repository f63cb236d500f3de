use Rattle.htl_blocks.proofs.PieceLemmas.{fits_alone, one_fault, some_fault}
use Rattle.htl_blocks.proofs.written_laws.a_script_fits_or_has_one_fault.Goals as goal

pub returns-clause-some : goal.returns-clause-some
returns-clause-some c = some_fault

pub returns-clause-one : goal.returns-clause-one
returns-clause-one c = one_fault

pub returns-clause-none : goal.returns-clause-none
returns-clause-none c = fits_alone
