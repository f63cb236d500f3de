use Rattle.std.proofs.Common.{rules, ◌<◌, ◌∙◌}
use Rattle.publisher.proofs.ChoiceLemmas.{choices_more}
use Rattle.publisher.proofs.choices.choices.Goals as goal

pub loop-depth-preserved : goal.loop-depth-preserved
loop-depth-preserved c =
    let some : 0 < c.loop-depth.depth = search rules in
    choices_more c.args.path.now c.loop-depth.depth c.loop-depth.list c.push.new.self c.in_ok-choice.field-0 some c.in_ok-choice.ensures c.in_ok-push.ensures.ok
    ∙ c.loop-depth.invariant
