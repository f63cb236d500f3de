use Rattle.std.proofs.Common.{◌≡◌, ◌∙◌, ◌-◌, ◌+◌, ℕ, List, Some, None, ap, sym, subst, arith}
use Rattle.url_maps.specs.declared.answer.MapAnswer.TheVariants.{Inside, Away}
use Rattle.url_maps.specs.Pairs.{HasNoPair}
use Rattle.url_maps.specs.Patterns.{Asked, asked_for}
use Rattle.url_maps.specs.Search.{IsStep, IsTurn}
use Rattle.url_maps.specs.Turns.{IsMapped, Turns}
use Rattle.url_maps.proofs.TurnLemmas.{turns_away, turns_end, turns_go_on, turns_over}
use Rattle.url_maps.proofs.index.MapIndex.turns.Goals as goal

pub loop-init : goal.loop-init
loop-init c = (
  ap (λ (a : Asked). a.text) c.in_ok-first.ensures ∙ sym c.in_ok-text.ensures,
  λ answer t.
      subst (λ (x : List ℕ). Turns c.args.tree.now 16 (Some (asked_for c.args.host.now c.args.port c.args.text.now)) x answer) c.in_ok-text.ensures
      (subst (λ (a : Asked). Turns c.args.tree.now 16 (Some a) c.in_ok-text.text answer) c.in_ok-first.ensures t),
)

pub returns-in_default : goal.returns-in_default
unfolding IsMapped
returns-in_default c =
    let tree = c.args.tree.now in
    let none = subst (λ (x : List ℕ). HasNoPair tree c.loop.asked x) c.text-in-loop.ensures (subst (IsTurn tree c.loop.asked c.text-in-loop.result.now) c.in_default.is c.in_ok-step.ensures) in
    c.loop.invariant.1 (Inside c.loop.text) (turns_end tree c.loop.asked c.loop.text 16 c.loop.counter c.loop-test.true none)

pub returns-in-Some-away : goal.returns-in-Some-away
unfolding IsMapped
returns-in-Some-away c =
    let tree = c.args.tree.now in
    let step = c.in-Some.step in
    let status = c.in-Some-away.status in
    let s : IsStep tree c.loop.asked c.loop.text step =
    subst (λ (x : List ℕ). IsStep tree c.loop.asked x step) c.text-in-loop.ensures (subst (IsTurn tree c.loop.asked c.text-in-loop.result.now) c.in-Some.is c.in_ok-step.ensures) in
    let turn = turns_away tree c.loop.asked c.loop.text 16 c.loop.counter c.loop-test.true s.at s.pair status s.decides (sym s.away_is ∙ c.in-Some-away.is) in
    c.loop.invariant.1 (Away status step.text) (subst (λ (x : List ℕ). Turns tree (16 - c.loop.counter) c.loop.asked c.loop.text (Away status x)) (sym s.text_is) turn)

pub loop-preserved : goal.loop-preserved
loop-preserved c = (
  tt,
  λ answer t.
      let tree = c.args.tree.now in
      let step = c.in-Some.step in
      let s : IsStep tree c.loop.asked c.loop.text step =
      subst (λ (x : List ℕ). IsStep tree c.loop.asked x step) c.text-in-loop.ensures (subst (IsTurn tree c.loop.asked c.text-in-loop.result.now) c.in-Some.is c.in_ok-step.ensures) in
      c.loop.invariant.1 answer
      (turns_go_on tree c.loop.asked c.loop.text 16 c.loop.counter c.loop-test.true s.at s.pair answer s.decides (sym s.away_is ∙ c.in_default-away.is)
      (subst (λ (x : List ℕ). Turns tree (16 - (c.loop.counter + 1)) None x answer) s.text_is t)),
)

pub returns : goal.returns
unfolding IsMapped
returns c =
    let tree = c.args.tree.now in
    let over : 16 - c.loop.counter ≡ 0 = omega arith in
    c.loop.invariant.1 (Inside c.loop.text) (turns_over tree c.loop.asked c.loop.text 16 c.loop.counter over)
