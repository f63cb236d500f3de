use Rattle.url_maps.proofs.FrontLemmas.{next_found, no_fronts, whole_front}
use Rattle.url_maps.proofs.fronts.first_front.Goals as goal

pub loop-row-init : goal.loop-row-init
loop-row-init c = no_fronts c.args.rows.now c.args.whole.now c.args.from

pub loop-row-preserved : goal.loop-row-preserved
loop-row-preserved c =
    next_found c.args.rows.now c.args.whole.now c.args.from c.loop-row.row-index _ c.loop-row-test.true c.row-item.is c.loop-row.best c.in_ok-front.front c.first_of-best.result c.in_ok-front.ensures c.loop-row.invariant c.first_of-best.ensures

pub returns : goal.returns
returns c = whole_front c.args.rows.now c.args.whole.now c.args.from c.loop-row.row-index c.loop-row.best c.loop-row-test.false c.loop-row.invariant
