use Rattle.std.proofs.Common.{arith}
use Rattle.regex_rules.specs.Linkings.{link}
use Rattle.regex_rules.proofs.LinkLemmas.{link_on, link_over}
use Rattle.regex_rules.proofs.follow_table.link.Goals as goal

pub returns : goal.returns
returns c = link_over c.loop-set.sets c.loop-set.set-index c.loop-set.left c.args.next (link c.args.after c.args.next c.args.sets.now) (omega arith) c.loop-set.invariant

pub loop-set-preserved : goal.loop-set-preserved
loop-set-preserved c =
    link_on c.loop-set.sets c.loop-set.set-index c.loop-set.left c.args.next c.linked.result (link c.args.after c.args.next c.args.sets.now) (omega arith) c.linked.ensures c.loop-set.invariant
