use Rattle.std.proofs.Common.{length}
use Rattle.std.specs.Prelude.{string_bytes}
use Rattle.post_plan.proofs.NameLemmas.{IsSqueezed}
use Rattle.post_plan.proofs.naming.squeezed.Given as goal

abbrev pub invariant-loop-rest : goal.invariant-loop-rest
invariant-loop-rest l = IsSqueezed l.fn.word (string_bytes l.name) l.run l.rest

abbrev pub decreases-loop-rest : goal.decreases-loop-rest
decreases-loop-rest l = length l.rest
