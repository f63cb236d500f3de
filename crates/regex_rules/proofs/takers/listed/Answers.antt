use Rattle.regex_rules.specs.Linkings.{takers_of}
use Rattle.regex_rules.proofs.LinkLemmas.{one_more_listed}
use Rattle.regex_rules.proofs.takers.listed.Goals as goal

pub loop-c-preserved : goal.loop-c-preserved
loop-c-preserved c =
    one_more_listed c.loop-c.sets.items c.push.new.self.items c.loop-c.c c.takers_of.result (λ k. takers_of k c.args.places.now) c.in_ok-push.ensures.items c.loop-c.invariant.0 c.takers_of.ensures c.loop-c.invariant.1
