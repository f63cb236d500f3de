use Rattle.std.proofs.Common.{◌≡◌, length}
use Rattle.form_input.specs.Lines.{lines}
use Rattle.form_input.specs.Multipart.{disposition_in}
use Rattle.form_input.proofs.part.disposition.Given as goal

abbrev pub invariant-loop-line : goal.invariant-loop-line
invariant-loop-line l = disposition_in (lines l.rest) ≡ disposition_in (lines l.part)

abbrev pub decreases-loop-line : goal.decreases-loop-line
decreases-loop-line l = length l.rest
