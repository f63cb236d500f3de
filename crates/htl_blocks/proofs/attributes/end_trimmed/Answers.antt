use Rattle.htl_blocks.proofs.Trimmed.{trimmed_boundary, trimmed_take}
use Rattle.htl_blocks.proofs.attributes.end_trimmed.Goals as goal

pub split_at-requires : goal.split_at-requires
split_at-requires c = rw (c.trimmed_len.ensures, c.as_bytes.ensures.value) (trimmed_boundary c.args.text.now)

pub returns : goal.returns
returns c = rw (c.split_at.ensures.front, c.trimmed_len.ensures, c.as_bytes.ensures.value) (trimmed_take c.args.text.now)
