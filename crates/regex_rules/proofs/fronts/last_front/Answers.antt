use Rattle.std.proofs.Common.{refl, subst}
use Rattle.regex_rules.proofs.FrontLemmas.{Walked, end_walked, more_walked, start_walked, lost_walked}
use Rattle.regex_rules.proofs.fronts.last_front.Goals as goal

pub loop-c-init : goal.loop-c-init
loop-c-init c = (
  c.utf8.text,
  start_walked c.args.places.now c.in_ok-sets.sets.olds c.take_nothing.new.self.olds c.in_ok-answer.answer c.args.text.now c.args.from c.utf8.text c.requires c.in_ok-sets.ensures c.in_ok-answer.ensures.same c.in_ok-answer.ensures.answer,
)

pub returns-in_default : goal.returns-in_default
returns-in_default c =
    end_walked c.args.places.now c.loop-c.sets.olds c.loop-c.answer c.loop-c.enters c.args.text.now c.loop-c.rest.now c.args.from c.loop-c.last c.utf8.text c.loop-c.invariant.1 c.later-last.result c.in_default.ensures.shorter c.later-last.ensures

pub loop-c-preserved : goal.loop-c-preserved
loop-c-preserved c =
    let next =
    more_walked c.args.places.now c.loop-c.sets.olds c.loop-c.answer c.loop-c.enters c.args.text.now c.loop-c.rest.now c.args.from c.loop-c.last c.utf8.text c.loop-c.invariant.1 c.in-Some.c c.in-Some.left.now c.later-last.result c.requires c.in-Some.ensures.parts c.in-Some.ensures.value c.later-last.ensures
    c.take.new.self.olds c.in_ok-answer-2.answer c.in_ok-answer-2.ensures.marks c.in_ok-answer-2.ensures.answer
    in (next.utf8, next)

pub returns-then-are_off : goal.returns-then-are_off
returns-then-are_off c =
    lost_walked c.args.places.now c.loop-c.sets.olds c.loop-c.answer c.args.text.now c.loop-c.rest.now c.in-Some.left.now c.args.from c.in-Some.c c.loop-c.last c.later-last.result c.utf8.text c.requires (c.if-are_off.ensures refl)
    (subst (λ b. Walked c.args.places.now c.loop-c.sets.olds c.loop-c.answer b c.args.text.now c.loop-c.rest.now c.args.from c.loop-c.last) c.if-not-enters.true c.loop-c.invariant.1) c.in-Some.ensures.parts c.later-last.ensures
