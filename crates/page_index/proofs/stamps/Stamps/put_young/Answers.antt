use Rattle.std.proofs.Common.{◌∙◌, ap}
use Rattle.page_index.specs.Held.{HeldStamps}
use Rattle.page_index.specs.Notes.{held_stamp}
use Rattle.page_index.proofs.StampLemmas.{put_beside}
use Rattle.page_index.proofs.stamps.Stamps.put_young.Goals as goal

pub returns-clause-others : goal.returns-clause-others
returns-clause-others c = λ other apart.
    put_beside c.args.folder other c.self.inside.young.entries c.self.inside.older.entries c.insert.new.self.entries c.args.stamp (c.in_ok-insert.ensures.updates.0 other) apart
    ∙ ap (λ (s : HeldStamps). held_stamp s other) c.self.view_is
