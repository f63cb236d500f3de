use Rattle.std.proofs.Common.{◌≡◌, length, map}
use Rattle.sp_base.specs.Bytes.{first_text}
use Rattle.post_plan.specs.Entries.{words_at}
use Rattle.post_plan.proofs.sets.first_at.Given as goal

abbrev pub invariant-loop-rest : goal.invariant-loop-rest
invariant-loop-rest l = first_text (words_at l.spot l.suffix (map (λ e. e.now) l.rest)) ≡ first_text (words_at l.spot l.suffix l.entries)

abbrev pub decreases-loop-rest : goal.decreases-loop-rest
decreases-loop-rest l = length l.rest
