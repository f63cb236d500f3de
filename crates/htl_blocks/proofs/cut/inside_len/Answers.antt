use Rattle.std.proofs.Common.{sym, ◌∙◌, arith}
use Rattle.htl_blocks.proofs.Steps.{inside_none, inside_here, inside_more, waiting_less}
use Rattle.htl_blocks.proofs.cut.inside_len.Goals as goal

pub returns-then-is_end : goal.returns-then-is_end
returns-then-is_end c =
    let here = inside_here c.args.name.now c.loop-rest.rest.now c.first_part.result.0.now c.first_part.result.1.now c.loop-rest.waiting c.loop-rest.len c.first_part.ensures.parts (sym c.is_end.ensures ∙ c.if-is_end.true) in
    sym here ∙ c.loop-rest.invariant.0

pub loop-rest-preserved : goal.loop-rest-preserved
loop-rest-preserved c =
    let more = inside_more c.args.name.now c.loop-rest.rest.now c.first_part.result.0.now c.first_part.result.1.now c.loop-rest.waiting c.loop-rest.len c.first_part.ensures.parts (sym c.is_end.ensures ∙ c.if-is_end.false) in
    let less = waiting_less c.args.name.now c.first_part.result.0.now c.loop-rest.waiting in
    let now = c.waiting_after-waiting.ensures in
    let size = c.first_part.ensures.lengths in
    let some = c.first_part.ensures.some in
    let all = c.loop-rest.invariant.1 in
    let few = c.loop-rest.invariant.2 in
    (rw now (sym more ∙ c.loop-rest.invariant.0), omega (arith, size, all), omega (arith, now, less, few, some))

pub returns : goal.returns
returns c = sym (inside_none c.args.name.now c.loop-rest.rest.now c.loop-rest.waiting c.loop-rest.len (sym c.is_empty.ensures ∙ c.loop-rest-test.false)) ∙ c.loop-rest.invariant.0
