use Rattle.std.proofs.Common.{◌∙◌, rules, sym}
use Rattle.htl_syntax.proofs.Turns.{access_more}
use Rattle.htl_syntax.proofs.access.accesses.Goals as goal

pub loop-turn-preserved : goal.loop-turn-preserved
loop-turn-preserved c =
    let same = access_more c.args.depth _ _ c.loop-turn.found c.loop-turn.rest.now _ _ c.loop-turn-test.true (sym c.if-not-access_at.ensures) c.in_ok-field.ensures ∙ c.loop-turn.invariant.1 in
    (search rules, rw c.in_ok-push.ensures.ok same)
