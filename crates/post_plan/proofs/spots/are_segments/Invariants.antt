use Rattle.std.proofs.Common.{◌≡◌, List, ℕ, Bor, length}
use Rattle.std.specs.List.{list_all}
use Rattle.sp_base.specs.Paths.{seg_ok}
use Rattle.post_plan.proofs.spots.are_segments.Given as goal

abbrev pub invariant-loop-rest : goal.invariant-loop-rest
invariant-loop-rest l = list_all (λ (n : Bor (List ℕ)). seg_ok n.now) l.rest ≡ list_all (λ (n : Bor (List ℕ)). seg_ok n.now) l.names

abbrev pub decreases-loop-rest : goal.decreases-loop-rest
decreases-loop-rest l = length l.rest
