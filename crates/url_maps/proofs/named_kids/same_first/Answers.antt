use Rattle.std.proofs.Common.{arith}
use Rattle.url_maps.proofs.NamedLemmas.{same_more}
use Rattle.url_maps.proofs.named_kids.same_first.Goals as goal

pub loop-at-preserved : goal.loop-at-preserved
loop-at-preserved c =
    same_more c.args.texts.now c.args.others.now c.loop-at.at c.index-texts-at.result c.index-others-at.result (omega (arith, c.loop-at-test.true, c.min-most.ensures)) (omega (arith, c.loop-at-test.true, c.min-most.ensures))
    c.index-texts-at.is c.index-others-at.is (c.is_same.ensures c.if-not-is_same.false) c.loop-at.invariant
