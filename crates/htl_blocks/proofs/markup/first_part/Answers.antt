use Rattle.std.proofs.Common.{arith}
use Rattle.htl_blocks.proofs.Tags.{part_within}
use Rattle.htl_blocks.proofs.Parts.{parts_step}
use Rattle.htl_blocks.proofs.markup.first_part.Goals as goal

pub split_at-requires : goal.split_at-requires
split_at-requires c = let x = part_within c.args.text.now c.requires in let e = c.part_len.ensures in omega (arith, e, x.1)

pub returns-clause-parts : goal.returns-clause-parts
returns-clause-parts c = rw (c.split_at.ensures.front, c.split_at.ensures.back, c.part_len.ensures) (parts_step c.args.text.now c.requires)

pub returns-clause-some : goal.returns-clause-some
returns-clause-some c = let x = part_within c.args.text.now c.requires in let e = c.part_len.ensures in let size = c.split_at.ensures.front_len in omega (arith, e, size, x.0)
