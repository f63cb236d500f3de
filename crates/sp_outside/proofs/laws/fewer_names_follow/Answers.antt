use Rattle.sp_outside.proofs.Walks.{fewer_left}
use Rattle.sp_outside.proofs.laws.fewer_names_follow.Goals as goal

pub returns : goal.returns
returns c = fewer_left
