use Rattle.std.proofs.Common.{arith}
use Rattle.replay_text.proofs.LineLaws.{newlines_more}
use Rattle.replay_text.proofs.lines.first_line.Goals as goal

pub loop-i-preserved : goal.loop-i-preserved
loop-i-preserved c = newlines_more c.args.text.now c.loop-i.i (omega arith) c.loop-i.invariant c.if-b-eq10.false
