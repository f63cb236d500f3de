use Rattle.sp_outside.proofs.Found.{same_boot}
use Rattle.sp_outside.proofs.opening.is_of_this_boot.Goals as goal

pub returns-clause-value : goal.returns-clause-value
returns-clause-value g c =
    same_boot (g.F.RawFiles.files c.args.below.now) g.F.RawFiles.boot _ _ c.is_same.result c.is_same.ensures c.in_ok-id.ensures c.in_ok-kept.ensures.value
