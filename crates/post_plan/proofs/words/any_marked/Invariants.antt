use Rattle.std.proofs.Common.{◌≡◌, length}
use Rattle.post_plan.specs.Parameters.{any_marked}
use Rattle.post_plan.proofs.words.any_marked.Given as goal

abbrev pub invariant-loop-rest : goal.invariant-loop-rest
invariant-loop-rest l = any_marked l.rest ≡ any_marked l.pairs

abbrev pub decreases-loop-rest : goal.decreases-loop-rest
decreases-loop-rest l = length l.rest
