use Rattle.std.proofs.Common.{◌≡◌, ◌==◌, ◌++◌, filter, drop}
use Rattle.post_plan.specs.NumberedSpots.{first_index}
use Rattle.post_plan.proofs.numbered_spots.numbered.Given as goal

abbrev pub invariant-loop-k : goal.invariant-loop-k
invariant-loop-k l = l.own ++ filter (λ e. first_index l.entries e.spot == l.n) (drop l.k l.entries) ≡ filter (λ e. first_index l.entries e.spot == l.n) l.entries
