use Rattle.std.proofs.Common.{◌≡◌, ◌+◌, length}
use Rattle.htl_blocks.specs.declared.quoting.Quoting.TheVariants.{Outside}
use Rattle.htl_blocks.specs.Attributes.{statement_place}
use Rattle.htl_blocks.proofs.markup.statement_place.Given as goal

abbrev pub invariant-loop-rest : goal.invariant-loop-rest
invariant-loop-rest l = (statement_place l.quoting l.len l.rest ≡ statement_place Outside 0 l.text) × (l.len + length l.rest ≡ length l.text)

abbrev pub decreases-loop-rest : goal.decreases-loop-rest
decreases-loop-rest l = length l.rest
