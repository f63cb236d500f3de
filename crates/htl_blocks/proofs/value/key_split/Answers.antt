use Rattle.htl_blocks.proofs.Runs.{key_boundary}
use Rattle.htl_blocks.proofs.value.key_split.Goals as goal

pub split_at-requires : goal.split_at-requires
split_at-requires c = rw (c.run_bytes.ensures.value, c.as_bytes.ensures.value) (key_boundary c.args.text.now)
