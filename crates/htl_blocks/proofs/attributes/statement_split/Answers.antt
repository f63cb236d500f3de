use Rattle.std.proofs.Common.{sym}
use Rattle.htl_blocks.proofs.Tags.{statement_boundary, statement_first}
use Rattle.htl_blocks.proofs.Turns.{split_is}
use Rattle.htl_blocks.proofs.attributes.statement_split.Goals as goal

pub split_at-requires : goal.split_at-requires
split_at-requires c = let there = sym c.in-Some.ensures.value in statement_boundary c.args.text.now c.in-Some.place (rw c.as_bytes.ensures.value at there)

pub tail-requires : goal.tail-requires
tail-requires c = let there = sym c.in-Some.ensures.value in rw c.split_at.ensures.back (statement_first c.args.text.now c.in-Some.place (rw c.as_bytes.ensures.value at there))

pub returns-in-Some : goal.returns-in-Some
returns-in-Some c = let there = sym c.in-Some.ensures.value in rw (c.end_trimmed.ensures, c.tail.ensures, c.split_at.ensures.front, c.split_at.ensures.back) (split_is c.args.text.now c.in-Some.place (rw c.as_bytes.ensures.value at there))
