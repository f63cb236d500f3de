use Rattle.std.proofs.Common.{◌≤◌, ◌-◌}
use Rattle.overlay_merge.proofs.ReachLemmas.{IsReach}
use Rattle.overlay_merge.proofs.reach.deepest_layer.Given as goal

abbrev pub invariant-loop-low : goal.invariant-loop-low
invariant-loop-low l = (2 ≤ l.low) × ((l.low ≤ l.high) × ((l.high ≤ 64) × IsReach l.tree l.path l.high))

abbrev pub decreases-loop-low : goal.decreases-loop-low
decreases-loop-low l = l.high - l.low
