use Rattle.std.proofs.Common.{arith}
use Rattle.regex_rules.specs.Linkings.{ones}
use Rattle.regex_rules.proofs.LinkLemmas.{count_on, count_over}
use Rattle.regex_rules.proofs.takers.count.Goals as goal

pub returns : goal.returns
returns c = count_over c.args.places.now c.loop-at.at c.loop-at.count (ones c.args.places.now) (omega arith) c.loop-at.invariant.1

pub loop-at-preserved : goal.loop-at-preserved
loop-at-preserved c = (
  omega (arith, c.loop-at.invariant.0, c.count_one-count.ensures.small),
  count_on c.args.places.now c.loop-at.at c.loop-at.count c.count_one-count.result (ones c.args.places.now) c.index-places-at.result c.loop-at-test.true c.index-places-at.is c.count_one-count.ensures.value c.loop-at.invariant.1,
)
