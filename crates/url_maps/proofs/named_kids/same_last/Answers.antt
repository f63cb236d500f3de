use Rattle.std.proofs.Common.{arith}
use Rattle.url_maps.proofs.NamedLemmas.{last_more}
use Rattle.url_maps.proofs.named_kids.same_last.Goals as goal

pub loop-passed-preserved : goal.loop-passed-preserved
loop-passed-preserved c =
    last_more c.args.texts.now c.args.others.now c.loop-passed.passed c.index-texts-texts.result c.index-others-others.result (omega (arith, c.loop-passed-test.true, c.min-most.ensures)) (omega (arith, c.loop-passed-test.true, c.min-most.ensures))
    c.index-texts-texts.is c.index-others-others.is (c.is_same.ensures c.if-not-is_same.false) c.loop-passed.invariant
