use Rattle.std.proofs.Common.{sym}
use Rattle.htl_blocks.proofs.Tags.{ended_boundary}
use Rattle.htl_blocks.proofs.cut.tag_split.Goals as goal

pub split_at-requires : goal.split_at-requires
split_at-requires c = let there = sym c.in-Some.ensures.value in ended_boundary c.args.text.now c.in-Some.place c.utf8.text (rw c.as_bytes.ensures.value at there)
