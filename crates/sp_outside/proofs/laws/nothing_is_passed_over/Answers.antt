use Rattle.sp_outside.proofs.Listed.{passed_over}
use Rattle.sp_outside.proofs.laws.nothing_is_passed_over.Goals as goal

pub returns : goal.returns
returns c = passed_over
