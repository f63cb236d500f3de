use Rattle.std.proofs.Common.{◌<◌, length, arith}
use Rattle.replay_text.proofs.LineLaws.{newlines_step_yes, newlines_step_no}
use Rattle.replay_text.proofs.lines.count_newlines.Goals as goal
use Rattle.replay_text.proofs.lines.count_newlines.Goals.{then-b-eq10, else-b-eq10}

pub loop-b-preserved : goal.loop-b-preserved
loop-b-preserved c =
    let i = c.loop-b.b-index in
    let lt : i < length c.args.text.now = omega arith in
    elim c.if-b-eq10.branch [
      | then-b-eq10 w ↦ let e = newlines_step_yes c.args.text.now i lt w.if-b-eq10.true in
          record { count = omega (arith, e); bound = omega arith }
      | else-b-eq10 w ↦ let e = newlines_step_no c.args.text.now i lt w.if-b-eq10.false in
          record { count = omega (arith, e); bound = omega arith }
    ]
