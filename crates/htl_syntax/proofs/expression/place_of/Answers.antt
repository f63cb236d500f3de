use Rattle.std.proofs.Common.{rules}
use Rattle.sp_base.specs.Bytes.{begins_with_byte}
use Rattle.htl_syntax.proofs.Scan.{colon_boundary}
use Rattle.htl_syntax.proofs.expression.place_of.Goals as goal

pub split_at-requires : goal.split_at-requires
unfolding begins_with_byte
split_at-requires c = colon_boundary c.args.text.now c.args.place c.requires (search rules)
