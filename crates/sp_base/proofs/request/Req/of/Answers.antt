use Rattle.sp_base.proofs.RequestBlockLemmas.{laid_out}
use Rattle.sp_base.proofs.request.Req.of.Goals as goal

pub invariant_of-result : goal.invariant_of-result
invariant_of-result c =
    laid_out c.push_parts.new.block.items c.args.bytes.now c.push.new.block.items c.in_ok-ends.ends c.args.head.now c.args.fields.items c.in_ok-ends.ensures c.in_ok-push.ensures c.requires.within
