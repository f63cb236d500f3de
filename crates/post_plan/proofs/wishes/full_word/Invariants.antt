use Rattle.std.proofs.Common.{◌≡◌, length}
use Rattle.post_plan.specs.NewNames.{full_word}
use Rattle.post_plan.proofs.wishes.full_word.Given as goal

abbrev pub invariant-loop-rest : goal.invariant-loop-rest
invariant-loop-rest l = full_word l.name l.rest ≡ full_word l.name l.pairs

abbrev pub decreases-loop-rest : goal.decreases-loop-rest
decreases-loop-rest l = length l.rest
