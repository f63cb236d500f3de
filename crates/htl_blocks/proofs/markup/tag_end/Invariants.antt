use Rattle.std.proofs.Common.{◌≡◌, ◌+◌, length}
use Rattle.htl_blocks.specs.declared.quoting.Quoting.TheVariants.{Outside}
use Rattle.htl_blocks.specs.Markup.{tag_end}
use Rattle.htl_blocks.proofs.markup.tag_end.Given as goal

abbrev pub invariant-loop-rest : goal.invariant-loop-rest
invariant-loop-rest l = (tag_end l.quoting l.len l.rest ≡ tag_end Outside 0 l.text) × (l.len + length l.rest ≡ length l.text)

abbrev pub decreases-loop-rest : goal.decreases-loop-rest
decreases-loop-rest l = length l.rest
