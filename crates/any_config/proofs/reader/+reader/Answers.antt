use Rattle.std.proofs.Common.{◌≡◌, ◌∙◌, rules, false}
use Rattle.any_config.specs.Read.{group, ends_members}
use Rattle.any_config.proofs.Turns.{group_zero, group_less, more_step, more_fails}
use Rattle.any_config.proofs.reader.+reader.Goals as goal

pub group-returns-then-depth-eq0 : goal.group-returns-then-depth-eq0
group-returns-then-depth-eq0 t c = group_zero c.args.depth c.args.text.now c.if-depth-eq0.true

pub group-returns : goal.group-returns
group-returns t c = rw (group_less c.args.depth c.args.text.now c.if-depth-eq0.false) c.opened.ensures

pub members-returns-in_err-name : goal.members-returns-in_err-name
members-returns-in_err-name t c =
    let on : ends_members c.loop-turn.rest.now ≡ false = search rules in
    let fails = more_fails (group c.args.depth) _ _ c.loop-turn.found c.loop-turn.rest.now c.in_err-name.field-0.0 _ c.loop-turn-test.true on c.loop-turn.invariant c.in_err-name.ensures in
    search rules

pub members-loop-turn-preserved : goal.members-loop-turn-preserved
members-loop-turn-preserved t c =
    let on : ends_members c.loop-turn.rest.now ≡ false = search rules in
    let same = more_step (group c.args.depth) _ _ c.loop-turn.found c.loop-turn.rest.now _ _ c.loop-turn-test.true on c.in_ok-name.ensures ∙ c.loop-turn.invariant in
    rw (c.in_ok-push.ensures.ok, c.skip-rest-in-loop-turn.ensures) same
