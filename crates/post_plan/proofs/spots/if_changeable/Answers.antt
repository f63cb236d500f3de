use Rattle.std.proofs.Common.{◌∙◌, sym}
use Rattle.post_plan.proofs.NodeLemmas.{changeable}
use Rattle.post_plan.proofs.spots.if_changeable.Goals as goal

pub returns-then-is_changeable : goal.returns-then-is_changeable
returns-then-is_changeable c = changeable c.args.node.now c.in-Some.spot c.args.spot c.in-Some.is (sym c.is_changeable.ensures ∙ c.if-is_changeable.true)
