use Rattle.std.proofs.Common.{◌∙◌, sym, refl, arith, [], false, get_or}
use Rattle.regex_rules.specs.Walks.{walked, at, begun}
use Rattle.regex_rules.proofs.WalkLemmas.{over_places, over_marks, walked_on}
use Rattle.regex_rules.proofs.walk.Walk.go.Goals as goal

pub returns-else-at-olds : goal.returns-else-at-olds
returns-else-at-olds c = sym (over_marks c.args.c c.args.places.now c.args.olds.now c.loop-at.at c.loop-at.self (omega arith)) ∙ c.loop-at.invariant

pub returns-after-loop-at : goal.returns-after-loop-at
returns-after-loop-at c = sym (over_places c.args.c c.args.places.now c.args.olds.now c.loop-at.at c.loop-at.self (omega arith)) ∙ c.loop-at.invariant

pub loop-at-preserved : goal.loop-at-preserved
loop-at-preserved c =
    walked_on c.args.c c.args.places.now c.args.olds.now c.loop-at.at c.index-places-at.result (get_or c.args.olds.now c.loop-at.at false) c.loop-at.self c.pass.new.self
    (walked c.args.c c.args.places.now c.args.olds.now (at (begun c.args.enters) [] [])) c.loop-at-test.true c.if-at-olds.true c.index-places-at.is refl c.in_ok-pass.ensures c.loop-at.invariant
