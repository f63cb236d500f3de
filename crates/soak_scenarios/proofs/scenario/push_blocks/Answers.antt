use Rattle.std.proofs.Common.{◌∙◌, ◌+◌, ap, sym}
use Rattle.soak_scenarios.specs.Soaks.{with_block}
use Rattle.soak_scenarios.proofs.Draws.{no_blocks, blocks_more}
use Rattle.soak_scenarios.proofs.scenario.push_blocks.Goals as goal

pub loop-before-init : goal.loop-before-init
loop-before-init c = sym (no_blocks c.args.draft.now)

pub loop-before-preserved : goal.loop-before-preserved
loop-before-preserved c = c.in_ok-push_block.ensures ∙ ap (with_block (c.loop-before.before + 1)) c.loop-before.invariant ∙ sym (blocks_more c.loop-before.before c.args.draft.now)
