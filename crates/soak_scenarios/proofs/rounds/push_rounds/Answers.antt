use Rattle.std.proofs.Common.{◌∙◌, ap, sym}
use Rattle.soak_scenarios.specs.Soaks.{with_drawn_round}
use Rattle.soak_scenarios.proofs.Draws.{no_rounds, rounds_more}
use Rattle.soak_scenarios.proofs.rounds.push_rounds.Goals as goal

pub loop-init : goal.loop-init
loop-init c = sym (no_rounds c.args.block c.args.draft.now)

pub loop-preserved : goal.loop-preserved
loop-preserved c = c.in_ok-push_round.ensures ∙ ap (with_drawn_round c.args.block) c.loop.invariant ∙ sym (rounds_more c.args.block c.loop.counter c.args.draft.now)
