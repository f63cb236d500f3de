use Rattle.std.proofs.Common.{sym, ◌∙◌, arith}
use Rattle.htl_blocks.proofs.Steps.{run_none, run_here, run_more}
use Rattle.htl_blocks.proofs.cut.run_len.Goals as goal

pub returns-then-is_block_tag : goal.returns-then-is_block_tag
returns-then-is_block_tag c =
    let here = run_here c.loop-rest.rest.now c.first_part.result.0.now c.first_part.result.1.now c.first_part.ensures.parts (sym c.is_block_tag.ensures ∙ c.if-is_block_tag.true) in
    let so_far = c.loop-rest.invariant.0 in
    omega (arith, here, so_far)

pub loop-rest-preserved : goal.loop-rest-preserved
loop-rest-preserved c =
    let more = run_more c.loop-rest.rest.now c.first_part.result.0.now c.first_part.result.1.now c.first_part.ensures.parts (sym c.is_block_tag.ensures ∙ c.if-is_block_tag.false) in
    let so_far = c.loop-rest.invariant.0 in
    let size = c.first_part.ensures.lengths in
    let all = c.loop-rest.invariant.1 in
    (omega (arith, more, so_far), omega (arith, size, all))

pub returns : goal.returns
returns c =
    let none = run_none c.loop-rest.rest.now (sym c.is_empty.ensures ∙ c.loop-rest-test.false) in
    let so_far = c.loop-rest.invariant.0 in
    omega (arith, none, so_far)
