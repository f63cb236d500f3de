use Rattle.htl_blocks.specs.Written.{blocks_parts}
use Rattle.htl_blocks.proofs.PieceLemmas.{alone_is_refused, many_is_refused}
use Rattle.htl_blocks.proofs.pieces.fault_beside.Goals as goal

pub returns-in_default : goal.returns-in_default
returns-in_default c = λ known. many_is_refused c.args.scope.now (blocks_parts c.args.scope.now c.args.all.now) c.in_default.field-0.parts c.in_default.field-0.rounds c.requires c.in_default.ensures.parts.1 c.in_default.ensures.parts.2 c.in_default.ensures.fits.0 c.in_default.ensures.fits.2

pub returns : goal.returns
returns c = λ known. alone_is_refused c.in-Err.fault c.args.scope.now (blocks_parts c.args.scope.now c.args.all.now) (c.in-Err.ensures.err known)
