use Rattle.std.proofs.Common.{◌≡◌, ◌+◌, ◌≤◌, length}
use Rattle.htl_blocks.specs.Markup.{parts, inside_len}
use Rattle.htl_blocks.proofs.cut.inside_len.Given as goal

abbrev pub invariant-loop-rest : goal.invariant-loop-rest
invariant-loop-rest l = (inside_len l.name l.waiting l.len (parts l.rest) ≡ inside_len l.name 0 0 (parts l.text)) × (l.len + length l.rest ≡ length l.text) × (l.waiting ≤ l.len)

abbrev pub decreases-loop-rest : goal.decreases-loop-rest
decreases-loop-rest l = length l.rest
