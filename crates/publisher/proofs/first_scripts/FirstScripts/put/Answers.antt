use Rattle.std.proofs.Common.{subst}
use Rattle.publisher.specs.FirstScripts.{KeptFirsts}
use Rattle.publisher.proofs.FirstLemmas.{IsOldOrNew, put_either}
use Rattle.publisher.proofs.first_scripts.FirstScripts.put.Goals as goal

pub returns : goal.returns
returns c n other is =
    subst (λ (old : KeptFirsts). IsOldOrNew old c.args.first n other) c.self.view_is
    (put_either c.insert.result _ c.self.inside.firsts.entries c.insert.new.self.entries c.args.number c.args.first c.insert.ensures.updates (λ u. u.0) c.insert.ensures.err n other is)
