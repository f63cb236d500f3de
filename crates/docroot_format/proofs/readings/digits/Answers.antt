use Rattle.std.proofs.Common.{◌∙◌, sym, arith}
use Rattle.docroot_format.proofs.Digits.{next_some}
use Rattle.docroot_format.proofs.readings.digits.Goals as goal

pub tail-rest-requires : goal.tail-rest-requires
tail-rest-requires c = omega (arith, (next_some c.loop-more.number c.in-Some.more c.loop-more.rest.now (sym c.next.ensures ∙ c.in-Some.is)).less)

pub loop-more-smaller : goal.loop-more-smaller
loop-more-smaller c =
    rw c.tail-rest.ensures (next_some c.loop-more.number c.in-Some.more c.loop-more.rest.now (sym c.next.ensures ∙ c.in-Some.is)).less

pub loop-more-preserved : goal.loop-more-preserved
loop-more-preserved c =
    rw c.tail-rest.ensures ((next_some c.loop-more.number c.in-Some.more c.loop-more.rest.now (sym c.next.ensures ∙ c.in-Some.is)).same ∙ c.loop-more.invariant)
