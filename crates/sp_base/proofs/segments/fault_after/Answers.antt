use Rattle.std.proofs.Common.{◌∙◌, sym, ap, ◌+◌, None}
use Rattle.sp_base.specs.Paths.{pieces, size_fault}
use Rattle.sp_base.proofs.PathFaults.{fit_fault}
use Rattle.sp_base.proofs.segments.fault_after.Goals as goal

pub returns-else-has_unfit : goal.returns-else-has_unfit
returns-else-has_unfit c =
    c.size_fault.ensures ∙ ap (λ n. size_fault None (c.args.before + n)) c.count.ensures ∙ sym (fit_fault c.args.before (pieces c.args.text.now) (sym c.has_unfit.ensures ∙ c.if-has_unfit.false))
