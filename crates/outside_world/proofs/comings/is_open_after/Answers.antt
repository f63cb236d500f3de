use Rattle.std.proofs.Common.{◌∙◌, ap, sym}
use Rattle.outside_world.specs.Worlds.{open_after_news}
use Rattle.outside_world.proofs.ComingLemmas.{opened_more}
use Rattle.outside_world.proofs.comings.is_open_after.Goals as goal

pub loop-happening-preserved : goal.loop-happening-preserved
loop-happening-preserved c =
    c.follows-is_open.ensures ∙ ap (λ b. open_after_news c.args.conn b c.happening-item.result) c.loop-happening.invariant
    ∙ sym (opened_more c.args.conn c.args.before.now c.loop-happening.happening-index c.happening-item.result c.loop-happening-test.true c.happening-item.is)
