use Rattle.std.proofs.Common.{option_copied}
use Rattle.form_input.proofs.FormLemmas.{IsReadTo, left}
use Rattle.form_input.proofs.multipart.read_parts.Given as goal

abbrev pub invariant-loop-mark : goal.invariant-loop-mark
invariant-loop-mark l = IsReadTo l.dash l.end l.fn.first l.form l.mark

abbrev pub decreases-loop-mark : goal.decreases-loop-mark
decreases-loop-mark l = left (option_copied l.mark.after)
