use Rattle.std.proofs.Common.{sym}
use Rattle.std.proofs.lemmas.Str.{IsCharBoundary-after_ascii}
use Rattle.sp_base.proofs.ListLemmas.{some_from_test}
use Rattle.htl_blocks.proofs.markup.tail.Goals as goal

pub split_at-requires : goal.split_at-requires
split_at-requires c = IsCharBoundary-after_ascii c.args.text.now 0 c.utf8.text (some_from_test c.args.text.now (sym c.if-is_empty.ensures)) c.requires
