use Rattle.std.proofs.Common.{◌∙◌, rules, sym}
use Rattle.htl_syntax.specs.Read.{compare, both, choice, nesting}
use Rattle.htl_syntax.proofs.Turns.{chain_more, nested_less}
use Rattle.htl_syntax.proofs.reader.+reader.Goals as goal

pub more_boths-loop-turn-preserved : goal.more_boths-loop-turn-preserved
more_boths-loop-turn-preserved t c =
    let same =
    chain_more (both c.args.depth (nesting c.args.depth)) 124 _ _ c.loop-turn.found c.loop-turn.rest.now _ _ _ c.loop-turn-test.true (sym c.if-not-begins_with_byte.ensures) c.in_ok-after.ensures c.in_ok-x.ensures ∙ c.loop-turn.invariant.1 in
    (search rules, rw c.in_ok-push.ensures.ok same)

pub more_compares-loop-turn-preserved : goal.more_compares-loop-turn-preserved
more_compares-loop-turn-preserved t c =
    let same =
    chain_more (compare c.args.depth (nesting c.args.depth)) 38 _ _ c.loop-turn.found c.loop-turn.rest.now _ _ _ c.loop-turn-test.true (sym c.if-not-begins_with_byte.ensures) c.in_ok-after.ensures c.in_ok-x.ensures ∙ c.loop-turn.invariant.1 in
    (search rules, rw c.in_ok-push.ensures.ok same)

pub more_items-loop-turn-preserved : goal.more_items-loop-turn-preserved
more_items-loop-turn-preserved t c =
    let same =
    chain_more (choice c.args.depth (nesting c.args.depth)) 44 _ _ c.loop-turn.found c.loop-turn.rest.now _ _ _ c.loop-turn-test.true (sym c.if-not-begins_with_byte.ensures) c.in_ok-after.ensures c.in_ok-x.ensures ∙ c.loop-turn.invariant.1 in
    (search rules, rw c.in_ok-push-2.ensures.ok same)

pub nesting-returns-in-Choice : goal.nesting-returns-in-Choice
nesting-returns-in-Choice t c = rw (nested_less c.args.depth c.args.inside c.args.text.now c.if-depth-eq0.false, c.in-Choice.is, ← c.tail.ensures, ← c.skip-rest.ensures) c.choice.ensures

pub nesting-returns-in-Operand : goal.nesting-returns-in-Operand
nesting-returns-in-Operand t c = rw (nested_less c.args.depth c.args.inside c.args.text.now c.if-depth-eq0.false, c.in-Operand.is, ← c.tail.ensures, ← c.skip-rest.ensures) c.operand.ensures

pub nesting-returns-in-Items : goal.nesting-returns-in-Items
nesting-returns-in-Items t c = rw (nested_less c.args.depth c.args.inside c.args.text.now c.if-depth-eq0.false, c.in-Items.is, ← c.tail.ensures, ← c.skip-rest.ensures) c.items.ensures
