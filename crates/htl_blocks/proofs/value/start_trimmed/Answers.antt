use Rattle.htl_blocks.proofs.Runs.{blanks_boundary}
use Rattle.htl_blocks.proofs.value.start_trimmed.Goals as goal

pub split_at-requires : goal.split_at-requires
split_at-requires c = rw (c.run_bytes.ensures.value, c.as_bytes.ensures.value) (blanks_boundary c.args.text.now c.utf8.text)
