use Rattle.std.proofs.Common.{◌≡◌, Option, sym, subst}
use Rattle.std.specs.Prelude.{IfSome}
use Rattle.sp_base.proofs.ResultLemmas.{OnErr-from}
use Rattle.sp_outside.specs.Files.{Files}
use Rattle.sp_outside.specs.FolderFiles.{IsNamesOf, is_kept}
use Rattle.sp_outside.proofs.Begun.{begun_gone, begun_removal, begun_same, goes_on, goes_on_same, gone_empty, gone_err, gone_ok, rest_noted, rest_removed, rest_same}
use Rattle.sp_outside.proofs.opening.begin.Goals as goal

pub remove_all-requires : goal.remove_all-requires
remove_all-requires g c = subst (λ (told : Option Files). IfSome told (λ files. IsNamesOf files c.args.found.now)) (sym c.is_kept.ensures.same) c.requires

pub returns-in_err-is_kept-clause-err : goal.returns-in_err-is_kept-clause-err
returns-in_err-is_kept-clause-err g c =
    OnErr-from c.from_residual.result (begun_same g.F.RawFiles.boot (g.F.RawFiles.files c.args.below.now) (g.F.RawFiles.files c.is_kept.new.below) c.is_kept.ensures.same)

pub returns-then-branch-clause-ok : goal.returns-then-branch-clause-ok
returns-then-branch-clause-ok g c =
    goes_on g.F.RawFiles.boot (g.F.RawFiles.files c.args.below.now) (g.F.RawFiles.files c.is_kept.new.below) c.is_kept.ensures.same
    (subst (λ b. IfSome (g.F.RawFiles.files c.args.below.now) (λ files. b ≡ is_kept g.F.RawFiles.boot files)) c.if-branch.true c.in_ok-is_kept.ensures.value)

pub returns-then-branch-clause-kept : goal.returns-then-branch-clause-kept
returns-then-branch-clause-kept g c = goes_on_same (g.F.RawFiles.files c.args.below.now) (g.F.RawFiles.files c.is_kept.new.below) c.is_kept.ensures.same

pub returns-in_err-remove_all-clause-err : goal.returns-in_err-remove_all-clause-err
returns-in_err-remove_all-clause-err g c =
    OnErr-from c.from_residual-in_err-remove_all.result (begun_removal g.F.RawFiles.boot (g.F.RawFiles.files c.args.below.now) (g.F.RawFiles.files c.is_kept.new.below) (g.F.RawFiles.files c.remove_all.new.below) c.is_kept.ensures.same
    (subst (λ b. IfSome (g.F.RawFiles.files c.args.below.now) (λ files. b ≡ is_kept g.F.RawFiles.boot files)) c.if-branch.false c.in_ok-is_kept.ensures.value)
    c.remove_all.ensures.kept)

pub returns-in_err-note_boot-clause-err : goal.returns-in_err-note_boot-clause-err
returns-in_err-note_boot-clause-err g c =
    OnErr-from c.from_residual-in_err-note_boot.result (gone_err g.F.RawFiles.boot (g.F.RawFiles.files c.args.below.now) (g.F.RawFiles.files c.note_boot.new.below)
    (begun_gone g.F.RawFiles.boot (g.F.RawFiles.files c.args.below.now) (g.F.RawFiles.files c.is_kept.new.below) (g.F.RawFiles.files c.remove_all.new.below) (g.F.RawFiles.files c.note_boot.new.below)
    c.is_kept.ensures.same
    (subst (λ b. IfSome (g.F.RawFiles.files c.args.below.now) (λ files. b ≡ is_kept g.F.RawFiles.boot files)) c.if-branch.false c.in_ok-is_kept.ensures.value)
    c.in_ok-remove_all.ensures.ok c.note_boot.ensures.others))

pub returns-clause-ok : goal.returns-clause-ok
returns-clause-ok g c =
    gone_ok g.F.RawFiles.boot (g.F.RawFiles.files c.args.below.now) (g.F.RawFiles.files c.note_boot.new.below)
    (begun_gone g.F.RawFiles.boot (g.F.RawFiles.files c.args.below.now) (g.F.RawFiles.files c.is_kept.new.below) (g.F.RawFiles.files c.remove_all.new.below) (g.F.RawFiles.files c.note_boot.new.below)
    c.is_kept.ensures.same
    (subst (λ b. IfSome (g.F.RawFiles.files c.args.below.now) (λ files. b ≡ is_kept g.F.RawFiles.boot files)) c.if-branch.false c.in_ok-is_kept.ensures.value)
    c.in_ok-remove_all.ensures.ok c.note_boot.ensures.others)

pub returns-clause-kept : goal.returns-clause-kept
returns-clause-kept g c =
    gone_empty g.F.RawFiles.boot (g.F.RawFiles.files c.args.below.now) (g.F.RawFiles.files c.note_boot.new.below)
    (begun_gone g.F.RawFiles.boot (g.F.RawFiles.files c.args.below.now) (g.F.RawFiles.files c.is_kept.new.below) (g.F.RawFiles.files c.remove_all.new.below) (g.F.RawFiles.files c.note_boot.new.below)
    c.is_kept.ensures.same
    (subst (λ b. IfSome (g.F.RawFiles.files c.args.below.now) (λ files. b ≡ is_kept g.F.RawFiles.boot files)) c.if-branch.false c.in_ok-is_kept.ensures.value)
    c.in_ok-remove_all.ensures.ok c.note_boot.ensures.others)

pub returns-in_err-is_kept-clause-rest : goal.returns-in_err-is_kept-clause-rest
returns-in_err-is_kept-clause-rest g c = rest_same (g.F.RawFiles.files c.args.below.now) (g.F.RawFiles.files c.is_kept.new.below) c.is_kept.ensures.same

pub returns-then-branch-clause-rest : goal.returns-then-branch-clause-rest
returns-then-branch-clause-rest g c = rest_same (g.F.RawFiles.files c.args.below.now) (g.F.RawFiles.files c.is_kept.new.below) c.is_kept.ensures.same

pub returns-in_err-remove_all-clause-rest : goal.returns-in_err-remove_all-clause-rest
returns-in_err-remove_all-clause-rest g c =
    rest_removed (g.F.RawFiles.files c.args.below.now) (g.F.RawFiles.files c.is_kept.new.below) (g.F.RawFiles.files c.remove_all.new.below) c.is_kept.ensures.same c.remove_all.ensures.rest

pub returns-in_err-note_boot-clause-rest : goal.returns-in_err-note_boot-clause-rest
returns-in_err-note_boot-clause-rest g c =
    rest_noted (g.F.RawFiles.files c.args.below.now) (g.F.RawFiles.files c.is_kept.new.below) (g.F.RawFiles.files c.remove_all.new.below) (g.F.RawFiles.files c.note_boot.new.below)
    c.is_kept.ensures.same c.remove_all.ensures.rest c.note_boot.ensures.others

pub returns-clause-rest : goal.returns-clause-rest
returns-clause-rest g c =
    rest_noted (g.F.RawFiles.files c.args.below.now) (g.F.RawFiles.files c.is_kept.new.below) (g.F.RawFiles.files c.remove_all.new.below) (g.F.RawFiles.files c.note_boot.new.below)
    c.is_kept.ensures.same c.remove_all.ensures.rest c.note_boot.ensures.others
