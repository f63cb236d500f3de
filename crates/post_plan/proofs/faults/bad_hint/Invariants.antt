use Rattle.std.proofs.Common.{◌≡◌, length}
use Rattle.post_plan.specs.Hints.{bad_hint_where}
use Rattle.post_plan.specs.Parameters.{any_marked}
use Rattle.post_plan.proofs.faults.bad_hint.Given as goal

abbrev pub invariant-loop-rest : goal.invariant-loop-rest
invariant-loop-rest l = bad_hint_where (any_marked l.pairs) l.rest ≡ bad_hint_where (any_marked l.pairs) l.pairs

abbrev pub decreases-loop-rest : goal.decreases-loop-rest
decreases-loop-rest l = length l.rest
