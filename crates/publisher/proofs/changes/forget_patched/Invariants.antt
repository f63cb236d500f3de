use Rattle.std.proofs.Common.{take}
use Rattle.publisher.proofs.ForgetLemmas.{Forgets}
use Rattle.publisher.proofs.changes.forget_patched.Given as goal

abbrev pub invariant-loop-position : goal.invariant-loop-position
invariant-loop-position l = Forgets l.fn.templates (take l.position l.patch) l.templates
