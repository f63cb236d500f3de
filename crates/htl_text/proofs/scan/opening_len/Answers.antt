use Rattle.std.proofs.Common.{sym, ◌∙◌}
use Rattle.htl_text.proofs.Opening.{returns_all, returns_open, goes_on}
use Rattle.htl_text.proofs.scan.opening_len.Goals as goal

pub returns-then-opens : goal.returns-then-opens
returns-then-opens c =
    let first = rw c.in-Some.is at c.memchr.ensures in
    returns_open c.in-Some.len c.loop-len.rest.now c.from-prefix.result.now c.args.text.now first.0 c.from-prefix.ensures (sym c.opens.ensures ∙ c.if-opens.true) c.loop-len.invariant.0 c.loop-len.invariant.1

pub loop-len-preserved : goal.loop-len-preserved
loop-len-preserved c =
    let first = rw c.in-Some.is at c.memchr.ensures in
    goes_on c.in-Some.len c.loop-len.rest.now c.from-prefix.result.now c.from-rest.result.now c.args.text.now first.0 c.from-prefix.ensures (sym c.opens.ensures ∙ c.if-opens.false) c.from-rest.ensures c.loop-len.invariant.0 c.loop-len.invariant.1

pub returns : goal.returns
returns c = returns_all c.loop-len.rest.now c.args.text.now c.in_default.ensures c.loop-len.invariant.0 c.loop-len.invariant.1
