use Rattle.std.proofs.Common.{[], ap, sym, ◌∙◌}
use Rattle.std.specs.Prelude.{◌==◌}
use Rattle.front.proofs.SliceLemmas.{slice-ends, some-flushes}
use Rattle.front.proofs.cache.Cache.slice.Goals as goal

pub returns-clause-slice : goal.returns-clause-slice
returns-clause-slice g c =
    rw (c.slice_end.ensures, ← c.self.view_is, c.leave_unfinished.ensures) (slice-ends c.self.inside.core c.purge_step-purged.new.self _ c.self.inside.flushes.items c.index-flush.result.now _ _ _ _ c.purge_step-purged.result c.index-flush.ensures
    (some-flushes c.self.inside.flushes.items (ap (λ n. n == 0) (sym c.self.inside.flushes.ok.0) ∙ sym c.is_empty.ensures ∙ c.if-is_empty.false)) c.purge_step-purged.ensures.flights c.purge_step-purged.ensures.kept c.purge_step-purged.ensures.flushes c.purge_step-purged.ensures.log c.purge_step-purged.ensures.disk_failed)
