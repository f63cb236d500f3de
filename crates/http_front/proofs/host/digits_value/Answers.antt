use Rattle.std.proofs.Common.{arith}
use Rattle.http_front.proofs.HostLemmas.{step}
use Rattle.http_front.proofs.host.digits_value.Goals as goal

pub overflow_mul-number : goal.overflow_mul-number
overflow_mul-number c =
    let s = step c.args.text.now c.loop-b.b-index c.requires c.loop-b-test.true in
    omega (arith, c.loop-b.invariant, s.more, s.fits)

pub overflow_add-number : goal.overflow_add-number
overflow_add-number c =
    let s = step c.args.text.now c.loop-b.b-index c.requires c.loop-b-test.true in
    omega (arith, c.loop-b.invariant, s.more, s.fits, c.from.ensures)

pub loop-b-preserved : goal.loop-b-preserved
loop-b-preserved c =
    let s = step c.args.text.now c.loop-b.b-index c.requires c.loop-b-test.true in
    omega (arith, c.loop-b.invariant, s.more, s.fits, c.from.ensures)
