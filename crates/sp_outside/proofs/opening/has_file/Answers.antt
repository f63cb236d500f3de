use Rattle.std.proofs.Common.{sym, ◌∙◌}
use Rattle.sp_outside.proofs.Found.{inside_has, outside_has}
use Rattle.sp_outside.proofs.opening.has_file.Goals as goal

pub returns-then-not-is_inside-clause-value : goal.returns-then-not-is_inside-clause-value
returns-then-not-is_inside-clause-value g c =
    outside_has (g.F.RawFiles.files c.args.below.now) c.args.name.now (sym c.is_inside.ensures ∙ c.if-not-is_inside.true)

pub returns-clause-value : goal.returns-clause-value
returns-clause-value g c =
    inside_has (g.F.RawFiles.files c.args.below.now) c.args.name.now _ c.is_some.result (sym c.is_inside.ensures ∙ c.if-not-is_inside.false) c.is_some.ensures c.in_ok-read.ensures.value
