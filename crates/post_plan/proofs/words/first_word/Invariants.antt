use Rattle.std.proofs.Common.{◌≡◌, length}
use Rattle.post_plan.specs.Parameters.{first_word}
use Rattle.post_plan.proofs.words.first_word.Given as goal

abbrev pub invariant-loop-rest : goal.invariant-loop-rest
invariant-loop-rest l = first_word l.name l.rest ≡ first_word l.name l.pairs

abbrev pub decreases-loop-rest : goal.decreases-loop-rest
decreases-loop-rest l = length l.rest
