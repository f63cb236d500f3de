use Rattle.sp_outside.proofs.Begun.{cleared, cleared_or_not, noted, noted_or_not, same_but}
use Rattle.sp_outside.proofs.Results.{either}
use Rattle.sp_outside.proofs.opening.note_boot.Goals as goal

pub returns-in_err-id-clause-others : goal.returns-in_err-id-clause-others
returns-in_err-id-clause-others g c = same_but (g.F.RawFiles.files c.args.below.now) _

pub returns-in-Some-clause-others : goal.returns-in-Some-clause-others
returns-in-Some-clause-others g c =
    let old = g.F.RawFiles.files c.args.below.now in
    let new = g.F.RawFiles.files c.replace.new.self in
    either c.replace.result (λ is. noted old new _ _ is) (λ fault is. noted_or_not old new _ _ fault is) c.replace.ensures.ok c.replace.ensures.err

pub returns-in-None-clause-others : goal.returns-in-None-clause-others
returns-in-None-clause-others g c =
    let old = g.F.RawFiles.files c.args.below.now in
    let new = g.F.RawFiles.files c.unlink.new.self in
    either c.unlink.result (λ is. cleared old new _ is) (λ fault is. cleared_or_not old new _ fault is) c.unlink.ensures.ok c.unlink.ensures.err
