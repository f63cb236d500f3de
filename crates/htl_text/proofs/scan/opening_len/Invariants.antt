use Rattle.std.proofs.Common.{◌≡◌, ◌+◌, ◌-◌, ◌≤◌, length}
use Rattle.htl_text.specs.Template.{opening_len}
use Rattle.htl_text.proofs.scan.opening_len.Given as goal

abbrev pub invariant-loop-len : goal.invariant-loop-len
invariant-loop-len l = (length l.rest ≤ length l.text) × (opening_len l.text ≡ (length l.text - length l.rest) + opening_len l.rest)

abbrev pub decreases-loop-len : goal.decreases-loop-len
decreases-loop-len l = length l.rest
