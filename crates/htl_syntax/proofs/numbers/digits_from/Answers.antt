use Rattle.std.proofs.Common.{◌∙◌, sym, rules}
use Rattle.htl_syntax.proofs.Decimal.{next_some}
use Rattle.htl_syntax.proofs.numbers.digits_from.Goals as goal

pub tail-rest-requires : goal.tail-rest-requires
tail-rest-requires c = (next_some c.args.limit c.loop-more.magnitude c.in-Some.more c.loop-more.rest.now (sym (rw c.as_bytes.ensures.value at c.next.ensures) ∙ c.in-Some.is)).ascii

pub loop-more-smaller : goal.loop-more-smaller
loop-more-smaller c =
    let step = next_some c.args.limit c.loop-more.magnitude c.in-Some.more c.loop-more.rest.now (sym (rw c.as_bytes.ensures.value at c.next.ensures) ∙ c.in-Some.is) in
    rw c.tail-rest.ensures step.less

pub loop-more-preserved : goal.loop-more-preserved
loop-more-preserved c =
    let step = next_some c.args.limit c.loop-more.magnitude c.in-Some.more c.loop-more.rest.now (sym (rw c.as_bytes.ensures.value at c.next.ensures) ∙ c.in-Some.is) in
    (search rules, rw c.tail-rest.ensures (step.same ∙ c.loop-more.invariant.1), step.fits)
