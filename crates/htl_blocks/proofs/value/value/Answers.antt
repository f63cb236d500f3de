use Rattle.std.proofs.Common.{sym, ◌∙◌, arith}
use Rattle.htl_syntax.proofs.Scan.{prefix_ascii}
use Rattle.htl_blocks.proofs.value.value.Goals as goal

pub tail-requires : goal.tail-requires
tail-requires c = let there = sym c.begins_with_byte.ensures ∙ c.if-begins_with_byte.true in prefix_ascii 61 c.start_trimmed-at_sign.result.now (omega arith) (rw c.as_bytes.ensures.value at there)
