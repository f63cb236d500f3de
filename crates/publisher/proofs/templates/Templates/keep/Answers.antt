use Rattle.std.proofs.Common.{subst}
use Rattle.publisher.specs.Kept.{KeptReadings}
use Rattle.publisher.proofs.KeptLemmas.{IsOldOrNew, old_or_new}
use Rattle.publisher.proofs.templates.Templates.keep.Goals as goal

pub returns : goal.returns
returns c path kept is =
    subst (λ (old : KeptReadings). IsOldOrNew old c.args.script c.args.reading path kept) c.self.view_is
    (old_or_new c.insert.result _ c.self.inside.readings.entries c.insert.new.self.entries c.args.script c.args.reading c.insert.ensures.updates (λ u. u.0) c.insert.ensures.err path kept is)
