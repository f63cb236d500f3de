use Rattle.std.proofs.Common.{rules, ◌≡◌, ◌∙◌, length, subst, arith}
use Rattle.std.proofs.lemmas.List.{nil_from_length}
use Rattle.sling_dispatch.specs.InnerServing.{CountsOn}
use Rattle.sling_dispatch.specs.Runs.{asked_publisher_host}
use Rattle.sling_dispatch.proofs.SoakLemmas.{counted_all, counted_next, counted_none, counted_shorter}
use Rattle.sling_dispatch.proofs.soak.count_acts.Goals as goal

pub loop-rest-init : goal.loop-rest-init
loop-rest-init c =
    let begun = c.in_ok-session.ensures in
    record {
      counted = counted_none c.args.publisher c.args.farm c.args.acts.now c.in_ok-session.session c.new-counts.result c.requires begun.stands begun.unarmed begun.event c.new-counts.ensures;
      room = omega (arith, begun.event);
      asked = begun.host;
    }

pub loop-rest-preserved : goal.loop-rest-preserved
loop-rest-preserved c =
    let l = c.loop-rest in
    let left = c.count_next.new.session in
    let counts = c.count_next.new.counts in
    let after = c.in-Ok.after.now in
    let host = asked_publisher_host c.args.farm in
    let made : CountsOn host l.rest.now after l.session left l.counts counts
    = subst (λ host. CountsOn host l.rest.now after l.session left l.counts counts) l.invariant.asked c.in-Ok.ensures.next in
    record {
      counted = counted_next c.events_extend.ensures.run c.events_extend.ensures.state c.acts_are_told_by_their_lines.ensures.first c.args.publisher c.args.farm c.args.acts.now l.rest.now after
          l.session left l.counts counts l.invariant.counted made;
      room = omega (arith, l.invariant.room, c.in-Ok.ensures.counted, counted_shorter host l.rest.now after l.session left l.counts counts made);
      asked = c.count_next.ensures.host ∙ l.invariant.asked;
    }

pub returns : goal.returns
returns c =
    let l = c.loop-rest in
    let none : length l.rest.now ≡ 0 = search rules in
    counted_all c.args.publisher c.args.farm c.args.acts.now l.rest.now l.session l.counts (nil_from_length l.rest.now none) l.invariant.counted
