use Rattle.std.proofs.Common.{◌∙◌, sym, ap}
use Rattle.sp_base.specs.Paths.{fault_of, pieces}
use Rattle.sp_base.proofs.PathFaults.{fault_after_none}
use Rattle.sp_base.proofs.PathText.{segs_after, root_segs}
use Rattle.sp_base.proofs.segments.fault_in.Goals as goal

pub returns-in-Some : goal.returns-in-Some
returns-in-Some c =
    c.fault_after.ensures ∙ fault_after_none (pieces c.in-Some.rest.now) ∙ ap fault_of (sym (segs_after c.args.text.now c.in-Some.rest.now c.in-Some.ensures.some))

pub returns-in-None : goal.returns-in-None
returns-in-None c = ap fault_of (sym (root_segs c.args.text.now c.requires c.in-None.ensures.none))
