use Rattle.std.proofs.Common.{refl}
use Rattle.coherence_core.proofs.CallsOfLooks.{ended_ok}
use Rattle.coherence_core.proofs.core_state.Core.keyed.Goals as goal

pub returns-in_default-clause-keyed : goal.returns-in_default-clause-keyed
returns-in_default-clause-keyed g c = rw (c.without_fault.ensures.got) (c.args.self.now.pages, (λ k. k, refl))

pub returns-in-Ok-None-clause-asks : goal.returns-in-Ok-None-clause-asks
returns-in-Ok-None-clause-asks g c = ended_ok _ _ _ _ _ _ _ c.without_fault-in-Ok-None.result c.without_fault-in-Ok-None.ensures.disk_failed c.in-Ok-None.ensures.asks

pub returns-in-Ok-Some-clause-asks : goal.returns-in-Ok-Some-clause-asks
returns-in-Ok-Some-clause-asks g c = ended_ok _ _ _ _ _ _ _ c.without_fault-in-Ok-Some.result c.without_fault-in-Ok-Some.ensures.disk_failed c.in-Ok-Some.ensures.asks

pub returns-in-Ok-Some-clause-keyed : goal.returns-in-Ok-Some-clause-keyed
returns-in-Ok-Some-clause-keyed g c = rw (c.without_fault-in-Ok-Some.ensures.got, c.without_fault-in-Ok-Some.ensures.disk_failed) (c.find.new.self.pages, (c.in-Ok-Some.ensures.learns, (c.in-Ok-Some.ensures.notes, refl, refl, rw (c.in-Ok-Some.field-0-is) at c.in-Ok-Some.ensures.value)))
