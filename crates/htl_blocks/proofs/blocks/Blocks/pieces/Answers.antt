use Rattle.htl_blocks.specs.declared.keeping.Keeping.TheVariants as keep
use Rattle.htl_blocks.specs.Written.{blocks_parts}
use Rattle.htl_blocks.proofs.PieceLemmas.{all_fits, long_is_refused}
use Rattle.htl_blocks.proofs.blocks.Blocks.pieces.Goals as goal

pub returns-in-Ok-clause-fits : goal.returns-in-Ok-clause-fits
returns-in-Ok-clause-fits c =
    rw (← c.blocks-2.ensures)
    (all_fits (blocks_parts c.args.scope.now c.blocks-2.result.now) c.in-Ok.list.parts c.in-Ok.list.rounds c.in-Ok.ensures.parts.1 c.in-Ok.ensures.parts.2 c.in-Ok.ensures.fits.0 c.in-Ok.ensures.fits.1 c.in-Ok.ensures.fits.2)

pub returns-in-Err-TooLong-clause-err : goal.returns-in-Err-TooLong-clause-err
returns-in-Err-TooLong-clause-err c =
    let over = rw c.in-Err-TooLong.field-0-is at c.in-Err-TooLong.ensures.err in
    rw (← c.blocks-2.ensures) (λ known. long_is_refused c.args.scope.now keep.All (blocks_parts c.args.scope.now c.blocks-2.result.now) (over known))
