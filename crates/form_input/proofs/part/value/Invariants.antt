use Rattle.std.proofs.Common.{◌≡◌, length}
use Rattle.form_input.specs.Lines.{lines}
use Rattle.form_input.specs.Multipart.{value_in}
use Rattle.form_input.proofs.part.value.Given as goal

abbrev pub invariant-loop-later : goal.invariant-loop-later
invariant-loop-later l = value_in (lines l.rest) ≡ value_in (lines l.part)

abbrev pub decreases-loop-later : goal.decreases-loop-later
decreases-loop-later l = length l.rest
