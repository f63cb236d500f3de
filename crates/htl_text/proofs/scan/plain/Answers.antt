use Rattle.std.proofs.Common.{sym, rules, arith}
use Rattle.sp_base.proofs.ListLemmas.{rest_short}
use Rattle.htl_text.proofs.Steps.{plain_boundary, plain_is, stops_is, escape, escape_is, escape_less, opens_first, opens_second}
use Rattle.htl_text.proofs.scan.plain.Goals as goal

pub split_at-requires : goal.split_at-requires
split_at-requires c = rw (c.plain_len.ensures, c.as_bytes.ensures.value) (plain_boundary c.loop-plain.rest.now)

pub returns-then-not-escapes-clause-pieces : goal.returns-then-not-escapes-clause-pieces
returns-then-not-escapes-clause-pieces c =
    rw c.from.ensures
    (plain_is c.plain_len.result _ _ _ _ c.loop-plain.rest.now c.args.text.now (rw c.as_bytes.ensures.value at c.plain_len.ensures) c.split_at.ensures.front c.split_at.ensures.back c.in_ok-push_str.ensures.bytes c.loop-plain.invariant.2)

pub returns-then-not-escapes-clause-ends : goal.returns-then-not-escapes-clause-ends
returns-then-not-escapes-clause-ends c =
    let none = sym c.if-not-escapes.ensures in
    stops_is c.plain_len.result c.loop-plain.rest.now c.split_at.result.1.now (rw c.as_bytes.ensures.value at c.plain_len.ensures) c.split_at.ensures.back (rw c.as_bytes-in-loop-plain.ensures.value at none)

pub tail-requires : goal.tail-requires
tail-requires c =
    let there = sym c.if-not-escapes.ensures in
    (escape c.split_at.result.1.now (rw c.as_bytes-in-loop-plain.ensures.value at there)).first

pub tail-requires-in-loop-plain : goal.tail-requires-in-loop-plain
tail-requires-in-loop-plain c =
    let there = sym c.if-not-escapes.ensures in
    let e = escape c.split_at.result.1.now (rw c.as_bytes-in-loop-plain.ensures.value at there) in
    rw c.tail.ensures (opens_first _ e.opens)

pub tail-rest-requires : goal.tail-rest-requires
tail-rest-requires c =
    let there = sym c.if-not-escapes.ensures in
    let e = escape c.split_at.result.1.now (rw c.as_bytes-in-loop-plain.ensures.value at there) in
    rw (c.tail-in-loop-plain.ensures, c.tail.ensures) (opens_second _ e.opens)

pub loop-plain-smaller : goal.loop-plain-smaller
loop-plain-smaller c =
    let there = sym c.if-not-escapes.ensures in
    let less = escape_less c.split_at.result.1.now (rw c.as_bytes-in-loop-plain.ensures.value at there) in
    let most = rest_short c.plain_len.result c.loop-plain.rest.now c.split_at.result.1.now c.split_at.ensures.back in
    rw (c.tail-rest.ensures, c.tail-in-loop-plain.ensures, c.tail.ensures) (omega (arith, less, most))

pub loop-plain-preserved : goal.loop-plain-preserved
loop-plain-preserved c =
    let there = sym c.if-not-escapes.ensures in
    let escapes = rw c.as_bytes-in-loop-plain.ensures.value at there in
    let less = escape_less c.split_at.result.1.now escapes in
    let most = rest_short c.plain_len.result c.loop-plain.rest.now c.split_at.result.1.now c.split_at.ensures.back in
    let same =
    plain_is c.plain_len.result _ _ _ _ c.loop-plain.rest.now c.args.text.now (rw c.as_bytes.ensures.value at c.plain_len.ensures) c.split_at.ensures.front c.split_at.ensures.back c.in_ok-push_str.ensures.bytes c.loop-plain.invariant.2 in
    let more = escape_is _ _ c.split_at.result.1.now c.args.text.now escapes c.in_ok-push_str-2.ensures.bytes same in
    let within = c.loop-plain.invariant.1 in
    (search rules, rw (c.tail-rest.ensures, c.tail-in-loop-plain.ensures, c.tail.ensures) (omega (arith, less, most, within)), rw (c.tail-rest.ensures, c.tail-in-loop-plain.ensures, c.tail.ensures) more)
