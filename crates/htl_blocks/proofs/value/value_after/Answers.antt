use Rattle.std.proofs.Common.{sym}
use Rattle.htl_blocks.proofs.Tags.{mark_first}
use Rattle.htl_blocks.proofs.value.value_after.Goals as goal

pub tail-requires : goal.tail-requires
tail-requires c = let there = sym c.in-Some.ensures in (mark_first c.args.text.now c.in-Some.mark (rw c.as_bytes.ensures.value at there)).0

pub quoted-requires : goal.quoted-requires
quoted-requires c = let there = sym c.in-Some.ensures in (mark_first c.args.text.now c.in-Some.mark (rw c.as_bytes.ensures.value at there)).1
