use Rattle.sp_outside.proofs.Listed.{of_files}
use Rattle.sp_outside.proofs.laws.names_are_of_files.Goals as goal

pub returns : goal.returns
returns c = of_files
