use Rattle.std.proofs.Common.{inl, [], ◌∷◌, refl, sym, ◌∙◌}
use Rattle.std.specs.Prelude.{is_ok}
use Rattle.sp_outside.specs.Calls.{Remove}
use Rattle.invalidation.specs.Walks.{IsThisPage}
use Rattle.invalidation.proofs.TakenFiles.{told_removed}
use Rattle.invalidation.proofs.walk.take_page.Goals as goal

pub returns-then-is_page_file-clause-takes : goal.returns-then-is_page_file-clause-takes
returns-then-is_page_file-clause-takes g c =
    let name = c.args.name.now in
    told_removed c.remove.result (IsThisPage name) name (g.D.Disk.files c.args.disk.now) (g.D.Disk.files c.remove.new.self) (refl, sym c.is_page_file.ensures ∙ c.if-is_page_file.true) c.remove.ensures.ok c.remove.ensures.err

pub returns-then-is_page_file-clause-calls : goal.returns-then-is_page_file-clause-calls
returns-then-is_page_file-clause-calls g c = (Remove c.args.name.now (is_ok c.remove.result) ∷ [], ((inl (sym c.is_page_file.ensures ∙ c.if-is_page_file.true), tt), c.remove.ensures.made))
