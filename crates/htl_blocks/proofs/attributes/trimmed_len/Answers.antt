use Rattle.std.proofs.Common.{sym}
use Rattle.htl_blocks.proofs.Trimmed.{ends_in_other, ends_in_blank}
use Rattle.htl_blocks.proofs.attributes.trimmed_len.Goals as goal

pub returns-then-not-is_blank : goal.returns-then-not-is_blank
returns-then-not-is_blank c = ends_in_other c.loop-rest.rest.now c.args.text.now c.in-len1-up.len_at_least (sym c.if-not-is_blank.ensures) c.loop-rest.invariant

pub loop-rest-preserved : goal.loop-rest-preserved
loop-rest-preserved c = ends_in_blank c.loop-rest.rest.now c.args.text.now c.in-len1-up.len_at_least (sym c.if-not-is_blank.ensures) c.loop-rest.invariant
