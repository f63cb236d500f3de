use Rattle.std.proofs.Common.{arith, ◌∙◌, length, ◌-◌, drop}
use Rattle.std.proofs.lemmas.List.{length-take, length-drop}
use Rattle.sling_dispatch.proofs.Writing.{wrote_more}
use Rattle.sling_dispatch.proofs.streams.write_all.Goals as goal

pub loop-at-preserved : goal.loop-at-preserved
loop-at-preserved g c =
    let inv = c.loop-at.invariant in
    let within = c.in_ok-at.ensures.within in
    record {
      wrote = wrote_more _ _ _ c.args.bytes.now c.loop-at.at c.in_ok-at.field-0 inv.wrote c.in_ok-at.ensures.ok;
      within = omega (arith, within, length-take (length c.args.bytes.now - c.loop-at.at) (drop c.loop-at.at c.args.bytes.now), length-drop c.loop-at.at c.args.bytes.now);
      not_failed = c.in_ok-at.ensures.cause ∙ inv.not_failed;
    }
