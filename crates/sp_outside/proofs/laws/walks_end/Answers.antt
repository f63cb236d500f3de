use Rattle.sp_outside.proofs.Walks.{ends, later}
use Rattle.sp_outside.proofs.laws.walks_end.Goals as goal

pub returns-clause-later : goal.returns-clause-later
returns-clause-later c = later

pub returns-clause-ends : goal.returns-clause-ends
returns-clause-ends c = ends
