use Rattle.publisher.proofs.FirstLemmas.{none_remembered, still_first}
use Rattle.publisher.proofs.changes.forget_firsts.Goals as goal

pub returns-then-keeps_firsts-clause-after : goal.returns-then-keeps_firsts-clause-after
returns-then-keeps_firsts-clause-after c after good look_ups =
    still_first c.args.tree.now after c.args.patch.now c.args.scripts.now c.args.firsts.now c.requires.firsts c.requires.change (c.keeps_firsts.ensures.supers c.if-keeps_firsts.true)
    (c.keeps_firsts.ensures.scripts c.if-keeps_firsts.true) good look_ups

pub returns-clause-before : goal.returns-clause-before
returns-clause-before c = none_remembered c.args.tree.now c.forget_all.new.self c.forget_all.ensures

pub returns-clause-after : goal.returns-clause-after
returns-clause-after c after good look_ups = none_remembered after c.forget_all.new.self c.forget_all.ensures
