use Rattle.std.proofs.Common.{◌≡◌, ◌≢◌, inl, arith, subst}
use Rattle.htl_blocks.proofs.LookedAt.{looked_at_less}
use Rattle.htl_blocks.specs.Refused.{IsRefused, most_rounds}
use Rattle.htl_blocks.specs.Written.{blocks_parts}
use Rattle.htl_blocks.specs.declared.run_fault.RunFault.{RunFault}
use Rattle.htl_blocks.specs.declared.run_fault.RunFault.TheVariants.{TooLong, NoMemory}
use Rattle.publisher.proofs.pages.pieces.Goals as goal

-- what is looked at is no longer than all
pub returns-in-Err-TooLong-clause-over : goal.returns-in-Err-TooLong-clause-over
returns-in-Err-TooLong-clause-over c = λ some.
    let ps = blocks_parts c.args.scope.now c.args.blocks.now in
    let long = subst (λ (f : RunFault). f ≢ NoMemory → IsRefused f ps) c.in-Err-TooLong.field-0-is c.in-Err-TooLong.ensures.err (λ (e : TooLong ≡ NoMemory). cc) in
    let less = looked_at_less most_rounds ps in
    inl (omega (arith, long, less))
