use Rattle.std.proofs.Common.{◌≡◌, ◌-◌, length, arith, subst}
use Rattle.overlay_merge.proofs.ReachLemmas.{NoneFrom, reach_from}
use Rattle.overlay_merge.proofs.reach.deepest_node.Goals as goal

pub returns-then-is_some : goal.returns-then-is_some
returns-then-is_some c other there under =
    let size = c.depth-depth.ensures.depth in
    let short = reach_from c.args.tree.now c.args.path.now (length c.args.path.now - c.loop-missing.missing) c.len.ensures.good.shape c.requires c.loop-missing.invariant other there under in
    omega (arith, size, short)

pub returns : goal.returns
returns c other there under =
    let size = c.depth-depth.ensures.depth in
    let none : length c.args.path.now - c.loop-missing.missing ≡ 0 = omega (arith, size) in
    reach_from c.args.tree.now c.args.path.now 0 c.len.ensures.good.shape c.requires (subst (NoneFrom c.args.tree.now c.args.path.now) none c.loop-missing.invariant) other there under
