use Rattle.std.proofs.Common.{◌∙◌, sym}
use Rattle.htl_syntax.proofs.Scan.{ascii_first}
use Rattle.htl_syntax.proofs.tokens.literal.Goals as goal

pub tail-rest-requires : goal.tail-rest-requires
tail-rest-requires c = ascii_first c.loop-left.left.now c.loop-left.rest.now c.loop-left.invariant.1 c.in-len1-up.len_at_least (sym c.begins_with_byte.ensures ∙ c.if-not-begins_with_byte.false)
