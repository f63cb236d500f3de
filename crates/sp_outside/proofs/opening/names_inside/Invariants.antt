use Rattle.sp_outside.proofs.Found.{IsNamesTo}
use Rattle.sp_outside.proofs.opening.names_inside.Given as goal

abbrev pub invariant-loop-name : goal.invariant-loop-name
invariant-loop-name l = IsNamesTo l.found l.name-index l.names
