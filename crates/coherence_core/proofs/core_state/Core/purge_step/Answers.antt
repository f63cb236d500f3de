use Rattle.std.proofs.Common.{inr, refl}
use Rattle.coherence_core.proofs.FlushingLemmas.{step_flushes, step_known, step_log}
use Rattle.coherence_core.proofs.core_state.Core.purge_step.Goals as goal

pub returns-clause-log : goal.returns-clause-log
returns-clause-log g c = step_log c.args.self.now _ _ _ c.slice_first-purged.new.queue.items c.slice_first-purged.result (record { farm = refl; flights = refl; asked = refl; begun = refl; epoch = refl; down = refl; pages = refl }) c.slice_first-purged.ensures.sliced c.retire.ensures (c.coverage_by_three_facts.ensures c.args.self.now.farm) c.a_flush_leaves_what_it_does_not_cover.ensures (record { stat = c.texts_are_read_back.ensures.stat; fits = c.what_reads_is_its_text.ensures.fits })

pub returns-clause-slice : goal.returns-clause-slice
returns-clause-slice g c = inr (c.slice_first-purged.new.queue.items, (c.slice_first-purged.ensures.sliced, c.retire.ensures))

pub returns-clause-flushes : goal.returns-clause-flushes
returns-clause-flushes g c = step_flushes c.args.self.now (record c.args.self.now { queue = c.retire.new.queue }) _ _ c.slice_first-purged.new.queue.items c.slice_first-purged.result (record { farm = refl; flights = refl; asked = refl; begun = refl; epoch = refl; down = refl; pages = refl }) c.slice_first-purged.ensures.sliced c.retire.ensures

pub returns-clause-knows : goal.returns-clause-knows
returns-clause-knows g c = step_known c.args.self.now (record c.args.self.now { queue = c.retire.new.queue }) _ _ c.slice_first-purged.new.queue.items c.slice_first-purged.result (record { farm = refl; flights = refl; asked = refl; begun = refl; epoch = refl; down = refl; pages = refl }) c.slice_first-purged.ensures.sliced c.retire.ensures c.a_flush_leaves_what_it_does_not_cover.ensures
