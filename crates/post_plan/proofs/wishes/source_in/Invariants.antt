use Rattle.std.proofs.Common.{◌≡◌, length, map}
use Rattle.post_plan.specs.NewNames.{source_in}
use Rattle.post_plan.proofs.wishes.source_in.Given as goal

abbrev pub invariant-loop-rest : goal.invariant-loop-rest
invariant-loop-rest l = source_in (map (λ n. n.now) l.rest) l.pairs ≡ source_in (map (λ n. n.now) l.names) l.pairs

abbrev pub decreases-loop-rest : goal.decreases-loop-rest
decreases-loop-rest l = length l.rest
