use Rattle.htl_blocks.proofs.Runs.{quoted_boundary, quoted_rest, drop_one_more}
use Rattle.htl_blocks.proofs.value.quoted.Goals as goal

pub split_at-requires : goal.split_at-requires
split_at-requires c = rw (c.run_bytes.ensures.value, c.as_bytes.ensures.value) (quoted_boundary c.args.mark c.args.text.now c.requires)

pub tail-requires : goal.tail-requires
tail-requires c = rw (c.split_at.ensures.back, c.run_bytes.ensures.value, c.as_bytes.ensures.value) (quoted_rest c.args.mark c.args.text.now c.requires)

pub returns-clause-rest : goal.returns-clause-rest
returns-clause-rest c = rw (c.tail.ensures, c.split_at.ensures.back, c.run_bytes.ensures.value, c.as_bytes.ensures.value) (drop_one_more _ c.args.text.now)
