use Rattle.std.proofs.Common.{arith}
use Rattle.post_plan.proofs.SetLemmas.{turn_by}
use Rattle.post_plan.proofs.sets.sets.Goals as goal

pub loop-n-preserved : goal.loop-n-preserved
loop-n-preserved c =
    turn_by c.args.pairs.now c.args.entries.now c.loop-n.n c.loop-n.list c.add.new.list _ c.in_ok-set.set (omega arith) c.in_ok-set.ensures c.in_ok-add.ensures c.loop-n.invariant
