use Rattle.std.proofs.Common.{sym, ◌∙◌}
use Rattle.std.proofs.lemmas.Result.{on_ok_weaker}
use Rattle.sp_outside.proofs.Begun.{below_of_inside, taken, taken_any, taken_none, taken_none_any, taken_or_not}
use Rattle.sp_outside.proofs.Results.{either}
use Rattle.sp_outside.proofs.opening.remove_inside.Goals as goal

pub unlink-requires : goal.unlink-requires
unlink-requires g c = below_of_inside c.args.name.now (sym c.is_inside.ensures ∙ c.if-is_inside.true)

pub returns-then-is_inside-clause-ok : goal.returns-then-is_inside-clause-ok
returns-then-is_inside-clause-ok g c =
    let old = g.F.RawFiles.files c.args.below.now in
    let new = g.F.RawFiles.files c.unlink.new.self in
    on_ok_weaker c.unlink.result (λ is. taken old new c.args.name.now (sym c.is_inside.ensures ∙ c.if-is_inside.true) is) c.unlink.ensures.ok

pub returns-then-is_inside-clause-any : goal.returns-then-is_inside-clause-any
returns-then-is_inside-clause-any g c =
    let old = g.F.RawFiles.files c.args.below.now in
    let new = g.F.RawFiles.files c.unlink.new.self in
    let inside = sym c.is_inside.ensures ∙ c.if-is_inside.true in
    either c.unlink.result (λ is. taken_any old new c.args.name.now inside is) (λ fault is. taken_or_not old new c.args.name.now fault inside is)
    c.unlink.ensures.ok c.unlink.ensures.err

pub returns-clause-ok : goal.returns-clause-ok
returns-clause-ok g c = taken_none (g.F.RawFiles.files c.args.below.now) c.args.name.now (sym c.is_inside.ensures ∙ c.if-is_inside.false)

pub returns-clause-any : goal.returns-clause-any
returns-clause-any g c = taken_none_any (g.F.RawFiles.files c.args.below.now) c.args.name.now
