use Rattle.std.proofs.Common.{◌≡◌, ◌≤◌, ◌+◌, length}
use denote.Text.{Utf8}
use denote.Shadow.{shadow}
use Rattle.sp_base.specs.Paths.{pieces}
use Rattle.post_plan.specs.RelativePaths as spec
use Rattle.post_plan.proofs.relative.relative_path_of.Given as goal

abbrev pub invariant-loop-next : goal.invariant-loop-next
invariant-loop-next l = shadow (Utf8 l.rest) × (spec.relative_path_from l.relative (pieces l.rest) ≡ spec.relative_path_of l.text) × (l.relative.up + length l.rest ≤ length l.text)

abbrev pub decreases-loop-next : goal.decreases-loop-next
decreases-loop-next l = length l.rest
