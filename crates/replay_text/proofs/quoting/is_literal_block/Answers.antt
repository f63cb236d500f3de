use Rattle.std.proofs.Common.{ltb, cond, refl, arith}
use Rattle.std.proofs.lemmas.Simd.{zip2_splat, length-chunk}
use lib.Lanes.{chunk}
use Rattle.replay_text.proofs.Runs.{itself, joined, literal_block, splat_is}
use Rattle.replay_text.proofs.quoting.is_literal_block.Goals as goal

pub returns : goal.returns
returns c =
    let v = chunk c.args.at 32 c.args.bytes.now in
    let long = length-chunk c.args.at 32 c.args.bytes.now c.requires in
    literal_block c.args.bytes.now c.args.at 32 _ _ c.requires (omega arith) c.type_inv.bytes
    (joined _ _ _ v (joined _ _ _ v (joined _ _ _ v (zip2_splat _ v 32 32 long) (joined (λ a b. cond (ltb a b) 255 0) _ _ v (splat_is v 32 126 long) (itself v))) (zip2_splat _ v 32 34 long)) (zip2_splat _ v 32 92 long)) refl
