use Rattle.std.proofs.Common.{None, cond, ◌∙◌, ap}
use Rattle.page_index.specs.Held.{HeldStamps, same_folder}
use Rattle.page_index.specs.Notes.{held_stamp}
use Rattle.page_index.proofs.StampLemmas.{forgotten_in_both}
use Rattle.page_index.proofs.stamps.Stamps.forget.Goals as goal

pub returns-clause-gone : goal.returns-clause-gone
returns-clause-gone c = λ other.
    let folder = c.args.folder.now in
    forgotten_in_both folder other c.self.inside.young.entries c.self.inside.older.entries c.remove.new.self.entries c.remove-2.new.self.entries (c.remove.ensures.updates.0 other) (c.remove-2.ensures.updates.0 other)
    ∙ ap (λ (s : HeldStamps). cond (same_folder folder other) None (held_stamp s other)) c.self.view_is
