use Rattle.std.proofs.Common.{◌≡◌, ◌+◌, length}
use Rattle.htl_blocks.specs.Markup.{parts}
use Rattle.htl_blocks.specs.Reading.{text_run_len}
use Rattle.htl_blocks.proofs.cut.run_len.Given as goal

abbrev pub invariant-loop-rest : goal.invariant-loop-rest
invariant-loop-rest l = (l.len + text_run_len (parts l.rest) ≡ text_run_len (parts l.text)) × (l.len + length l.rest ≡ length l.text)

abbrev pub decreases-loop-rest : goal.decreases-loop-rest
decreases-loop-rest l = length l.rest
