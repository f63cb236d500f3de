use Rattle.std.proofs.Common.{◌≡◌, ◌≤◌, ◌==◌, take}
use Rattle.std.specs.List.{count_by}
use Rattle.sp_base.proofs.segments.slashes.Given as goal

abbrev pub invariant-loop-b : goal.invariant-loop-b
invariant-loop-b l = (l.found ≡ count_by (λ b. b == 47) (take l.b-index l.b-items)) × (l.found ≤ l.b-index)
