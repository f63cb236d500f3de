use Rattle.htl_blocks.proofs.Parts.{end_tag_boundary}
use Rattle.htl_blocks.proofs.cut.end_tag_split.Goals as goal

pub split_at-requires : goal.split_at-requires
split_at-requires c = rw (c.part_len.ensures, c.as_bytes.ensures.value) (end_tag_boundary c.args.text.now c.utf8.text c.requires.some c.requires.end_tag)
