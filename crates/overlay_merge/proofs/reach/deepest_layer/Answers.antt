use Rattle.std.proofs.Common.{◌≤◌, arith}
use Rattle.overlay_merge.proofs.ReachLemmas.{reach_at}
use Rattle.overlay_merge.proofs.reach.deepest_layer.Goals as goal

pub returns : goal.returns
returns c =
    let at = c.loop-low.invariant in
    let deep : 2 ≤ c.loop-low.high = omega (arith, at.0, at.1.0) in
    reach_at c.args.tree.now c.args.path.now c.loop-low.high c.len.ensures.good.shape c.requires deep at.1.1.1
