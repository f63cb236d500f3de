use Rattle.std.proofs.Common.{◌-◌, arith, length, ap, length-append}
use Rattle.replay_text.specs.Lines.{text_of_lines}
use Rattle.replay_text.proofs.BlockLaws.{block_line, block_ends, no_block_ends}
use Rattle.replay_text.proofs.reader.block_end.Goals as goal

pub returns-then-same-clause-ok : goal.returns-then-same-clause-ok
returns-then-same-clause-ok c =
    let p = c.loop-line.invariant in
    let size = ap length p.text_is in
    let parts = length-append (text_of_lines p.block) c.loop-line.rest.now in
    block_ends c.args.text.now c.loop-line.rest.now c.in-Some.line.now c.in-Some.after.now c.loop-line.count
    (length c.args.text.now - length c.loop-line.rest.now) p c.in-Some.ensures.some (c.same.ensures.0 c.if-same.true)
    (omega (arith, size, parts))

pub loop-line-preserved : goal.loop-line-preserved
loop-line-preserved c = block_line _ _ c.in-Some.line.now _ _ c.loop-line.invariant c.in-Some.ensures.some
    (λ e. let h = c.same.ensures.1 e in cc (h, c.if-same.false))

pub returns-clause-err : goal.returns-clause-err
returns-clause-err c = no_block_ends _ _ _ c.loop-line.invariant c.in_default.ensures.none
