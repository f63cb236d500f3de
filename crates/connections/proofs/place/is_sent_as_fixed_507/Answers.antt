use Rattle.std.proofs.Common.{inl, inr}
use Rattle.connections.proofs.FixedLemmas.{closed-fixed, other-fixed}
use Rattle.connections.proofs.place.is_sent_as_fixed_507.Goals as goal
use Rattle.connections.proofs.place.is_sent_as_fixed_507.Goals.{then-head_only-via-then-head_only, then-head_only-via-else-head_only+then-not-closes}

pub returns : goal.returns
returns c = closed-fixed c.args.head_only c.args.closes c.args.answer.now c.is_fixed_answer-fixed.result c.is_fixed_answer-fixed.ensures.is c.is_fixed_answer-fixed.ensures.tells (c.if-head_only.false, c.if-not-closes.false)

pub returns-then-head_only : goal.returns-then-head_only
returns-then-head_only c =
    elim c.then-head_only.branch [
      | then-head_only-via-then-head_only w ↦ other-fixed c.args.head_only c.args.closes c.args.answer.now (inl w.if-head_only.true)
      | then-head_only-via-else-head_only+then-not-closes w ↦ other-fixed c.args.head_only c.args.closes c.args.answer.now (inr (w.if-head_only.false, w.if-not-closes.true))
    ]
