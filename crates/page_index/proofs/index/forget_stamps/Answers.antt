use Rattle.std.proofs.Common.{arith, sym}
use Rattle.page_index.proofs.StampLemmas.{forgotten_more, forgotten_none}
use Rattle.page_index.proofs.index.forget_stamps.Goals as goal

pub loop-folder-init : goal.loop-folder-init
loop-folder-init c = forgotten_none c.args.folders.now c.args.stamps.now

pub loop-folder-preserved : goal.loop-folder-preserved
loop-folder-preserved c =
    forgotten_more c.args.folders.now c.loop-folder.folder-index c.folder-item.result c.args.stamps.now c.loop-folder.stamps c.forget.new.self c.loop-folder-test.true (sym c.folder-item.is) c.loop-folder.invariant c.forget.ensures.gone

pub returns-clause-gone : goal.returns-clause-gone
returns-clause-gone c = λ folder has. c.loop-folder.invariant.gone has.0 folder (omega (arith, has.1, c.loop-folder-test.false)) has.2

pub returns-clause-fewer : goal.returns-clause-fewer
returns-clause-fewer c = c.loop-folder.invariant.fewer
