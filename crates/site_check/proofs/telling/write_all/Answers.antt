use Rattle.std.proofs.Common.{arith}
use Rattle.std.proofs.lemmas.List.{length-drop}
use Rattle.site_check.proofs.telling.write_all.Goals as goal

pub loop-at-preserved : goal.loop-at-preserved
loop-at-preserved g c =
    let within = c.in_ok-at.ensures.within in
    let left = length-drop c.loop-at.at c.args.bytes.now in
    let inside = c.loop-at.invariant in
    omega (arith, within, left, inside)
