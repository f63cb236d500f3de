use Rattle.post_laws.proofs.FrameLemmas.{left_as_before}
use Rattle.post_laws.proofs.laws.operations_leave_what_is_apart.Goals as goal

pub returns : goal.returns
returns c = left_as_before
