use Rattle.std.proofs.Common.{◌∙◌, ◌+◌, sym, ap}
use Rattle.std.specs.Option.{option_map}
use Rattle.sp_base.specs.Paths.{pieces}
use Rattle.sp_base.proofs.PathFaults.{long_after}
use Rattle.sp_base.proofs.segments.long_after.Goals as goal

pub returns-in-Some : goal.returns-in-Some
returns-in-Some c = ap (option_map (λ i. c.args.before + i)) c.in-Some.ensures.first ∙ sym (long_after c.args.before (pieces c.args.text.now))

pub returns-in-None : goal.returns-in-None
returns-in-None c = ap (option_map (λ i. c.args.before + i)) c.in-None.ensures.first ∙ sym (long_after c.args.before (pieces c.args.text.now))
