use Rattle.std.proofs.Common.{sym, subst, ◌-◌, ◌≤◌, length, take, arith}
use Rattle.std.proofs.lemmas.Result.{MatchResult-weaker}
use Rattle.replay_text.specs.Reading.{Refuses, Acts, SpellsActs}
use Rattle.replay_text.proofs.ReadingActs.{passed_none, passed_within, passed_one_more, passed_act, passed_all, refused_past_end, refused_at_line, refused_at_end}
use Rattle.replay_text.proofs.reader.acts_end.Goals as goal

pub loop-line-init : goal.loop-line-init
loop-line-init c = passed_none c.args.text.now

pub returns-then-same-clause-ok : goal.returns-then-same-clause-ok
returns-then-same-clause-ok c =
    let p = c.loop-line.invariant in
    let line = c.same.ensures.0 c.if-same.true in
    MatchResult-weaker c.ended.result c.ended.ensures
    (λ at h. subst (λ k. (k ≤ length c.args.text.now) × SpellsActs c.args.text.now (take k c.args.text.now)) (sym h.0)
    (passed_all _ _ _ _ _ (length c.args.text.now - length c.loop-line.rest.now) p c.in-Some.ensures.some line h.1 (omega (arith, p.small))))
    (λ e h. tt)

pub returns-then-same-clause-err : goal.returns-then-same-clause-err
returns-then-same-clause-err c =
    let p = c.loop-line.invariant in
    let line = c.same.ensures.0 c.if-same.true in
    MatchResult-weaker c.ended.result c.ended.ensures
    (λ at h. tt)
    (λ e h. subst (Refuses Acts c.args.text.now) (sym h.0) (
      refused_past_end _ _ _ _ _ p c.in-Some.ensures.some line h.1,
      passed_one_more _ _ _ _ _ p c.in-Some.ensures.some,
    ))

pub loop-line-preserved : goal.loop-line-preserved
loop-line-preserved c =
    let act = c.in_ok-known.ensures.yes c.if-not-known.false in
    passed_act _ _ c.in-Some.line.now c.in-Some.after.now act.0 _ c.loop-line.invariant c.in-Some.ensures.some act.1 act.2

pub returns-clause-err : goal.returns-clause-err
returns-clause-err c = (refused_at_end _ _ _ c.loop-line.invariant c.in_default.ensures.none, passed_within _ _ _ c.loop-line.invariant)

pub returns-then-not-known-clause-err : goal.returns-then-not-known-clause-err
returns-then-not-known-clause-err c =
    let none = c.in_ok-known.ensures.no c.if-not-known.true in (
      refused_at_line _ _ c.in-Some.line.now _ _ c.loop-line.invariant c.in-Some.ensures.some none
          (λ e. let h = c.same.ensures.1 e in cc (h, c.if-same.false)),
      passed_within _ _ _ c.loop-line.invariant,
    )
