use Rattle.std.proofs.Common.{◌≡◌}
use Rattle.overlay_merge.specs.Walk.{kid_depth, resource_depth}
use Rattle.overlay_merge.proofs.hiding.hiding_depths.Given as goal

abbrev pub invariant-loop-k : goal.invariant-loop-k
invariant-loop-k l = (l.resource ≡ resource_depth l.tree l.path l.k) × (l.kid ≡ kid_depth l.tree l.path l.k)
