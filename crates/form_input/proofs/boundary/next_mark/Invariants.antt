use Rattle.std.proofs.Common.{length}
use Rattle.form_input.specs.Boundaries.{ArePartsPassed}
use Rattle.form_input.proofs.boundary.next_mark.Given as goal

abbrev pub invariant-loop-form : goal.invariant-loop-form
invariant-loop-form l = ArePartsPassed l.dash l.end l.text l.rest

abbrev pub decreases-loop-form : goal.decreases-loop-form
decreases-loop-form l = length l.rest
