use Rattle.std.proofs.Common.{◌∙◌, sym, arith}
use Rattle.regex_rules.specs.Linkings.{linked}
use Rattle.regex_rules.proofs.LinkLemmas.{linked_on, linked_over}
use Rattle.regex_rules.proofs.linking.Linking.go.Goals as goal

pub returns : goal.returns
returns c = sym (linked_over c.args.places.now c.loop-at.at c.loop-at.self (omega arith)) ∙ c.loop-at.invariant

pub loop-at-preserved : goal.loop-at-preserved
loop-at-preserved c =
    linked_on c.args.places.now c.loop-at.at c.index-places-at.result c.loop-at.self c.pass.new.self (linked c.args.places.now c.args.self.now) c.loop-at-test.true c.index-places-at.is c.in_ok-pass.ensures c.loop-at.invariant
