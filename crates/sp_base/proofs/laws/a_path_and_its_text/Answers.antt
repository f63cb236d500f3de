use Rattle.sp_base.proofs.PathParts.{read_back, spells_its_text, reads_valid}
use Rattle.sp_base.proofs.laws.a_path_and_its_text.Goals as goal

pub returns-clause-read : goal.returns-clause-read
returns-clause-read c = read_back

pub returns-clause-spelled : goal.returns-clause-spelled
returns-clause-spelled c = spells_its_text

pub returns-clause-valid : goal.returns-clause-valid
returns-clause-valid c = reads_valid
