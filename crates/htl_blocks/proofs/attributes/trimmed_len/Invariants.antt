use Rattle.std.proofs.Common.{◌≡◌, length}
use Rattle.htl_blocks.specs.Attributes.{trimmed_len}
use Rattle.htl_blocks.proofs.attributes.trimmed_len.Given as goal

abbrev pub invariant-loop-rest : goal.invariant-loop-rest
invariant-loop-rest l = trimmed_len l.rest ≡ trimmed_len l.text

abbrev pub decreases-loop-rest : goal.decreases-loop-rest
decreases-loop-rest l = length l.rest
