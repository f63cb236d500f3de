use Rattle.std.proofs.Common.{◌≡◌, length}
use Rattle.post_plan.specs.Plan.{first_bad, bad_text}
use Rattle.post_plan.proofs.faults.first_bad.Given as goal

abbrev pub invariant-loop-rest : goal.invariant-loop-rest
invariant-loop-rest l = first_bad (bad_text l.node l.verdict.dest l.verdict.name l.verdict.marked) l.rest ≡ first_bad (bad_text l.node l.verdict.dest l.verdict.name l.verdict.marked) l.pairs

abbrev pub decreases-loop-rest : goal.decreases-loop-rest
decreases-loop-rest l = length l.rest
