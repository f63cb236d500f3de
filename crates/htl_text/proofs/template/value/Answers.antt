use Rattle.std.proofs.Common.{sym}
use Rattle.htl_text.proofs.Steps.{opens_first, opens_second, opens_less, closing_boundary, closing_prefix}
use Rattle.htl_text.proofs.template.value.Goals as goal

pub tail-requires : goal.tail-requires
tail-requires c = opens_first c.args.text.now c.requires

pub tail-inside-requires : goal.tail-inside-requires
tail-inside-requires c = rw c.tail.ensures (opens_second c.args.text.now c.requires)

pub split_at-requires : goal.split_at-requires
split_at-requires c =
    let there = sym c.in-Some.ensures in
    closing_boundary c.tail-inside.result.now c.in-Some.len (rw c.as_bytes.ensures.value at there)

pub tail-requires-in-Ok : goal.tail-requires-in-Ok
tail-requires-in-Ok c =
    let there = sym c.in-Some.ensures in
    rw c.split_at.ensures.back (closing_prefix c.tail-inside.result.now c.in-Some.len (rw c.as_bytes.ensures.value at there))

pub returns-in-Ok-clause-less : goal.returns-in-Ok-clause-less
returns-in-Ok-clause-less c = rw (c.tail-in-Ok.ensures, c.split_at.ensures.back, c.tail-inside.ensures, c.tail.ensures) (opens_less c.in-Some.len c.args.text.now c.requires)
