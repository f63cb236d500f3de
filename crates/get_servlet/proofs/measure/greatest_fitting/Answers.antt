use Rattle.std.proofs.Common.{◌≡◌, ◌+◌, ◌-◌, ◌≤◌, ◌++◌, List, length, subst, sym, ◌∙◌, ap, arith}
use Rattle.std.proofs.lemmas.Bool.{eqb-true}
use Rattle.get_servlet.specs.declared.kids.Kid.{Kid}
use Rattle.get_servlet.specs.Rendering.{shown_count}
use Rattle.get_servlet.specs.Steps.{shown_kids, next_level}
use Rattle.get_servlet.proofs.CountLemmas.{all_fit, first_level, first_over, level_more, level_fits, level_over, none_deeper}
use Rattle.get_servlet.proofs.measure.greatest_fitting.Goals as goal

pub returns-then-not-branch : goal.returns-then-not-branch
returns-then-not-branch g c =
    let seen = g.L.Look.seen c.args.look.now in
    let res = c.args.res.now in
    let kids = shown_kids seen c.path.result.now res in
    let over = rw c.if-not-branch.true at c.in_ok-add_kids.ensures in
    first_over seen res c.path.result.now c.args.depth c.path.ensures c.requires.deep (omega (arith, over, ap (λ (none : List Kid). length (none ++ kids)) c.new-level.ensures.items))

pub loop-reached-init : goal.loop-reached-init
loop-reached-init g c =
    let seen = g.L.Look.seen c.args.look.now in
    let res = c.args.res.now in
    let kids = shown_kids seen c.path.result.now res in
    let found = rw c.if-not-branch.false at c.in_ok-add_kids.ensures in
    let all = found.0 ∙ ap (λ (none : List Kid). none ++ kids) c.new-level.ensures.items in
    first_level seen res c.path.result.now c.add_kids.new.level.items c.path.ensures all (omega (arith, found.1, ap length found.0))

pub returns-in_default : goal.returns-in_default
returns-in_default g c =
    let seen = g.L.Look.seen c.args.look.now in
    let res = c.args.res.now in
    let level = c.loop-reached.level.items in
    let left = c.loop-reached.room - c.len.result in
    let over = rw c.in_default.is at c.in_ok-next.ensures in
    level_over seen res c.args.depth c.loop-reached.reached c.loop-reached.room left level c.loop-reached.invariant (omega (arith, c.loop-reached.auto)) (omega (arith, c.loop-reached.auto, c.loop-reached-test.true))
    (omega (arith, c.len.ensures, c.loop-reached.invariant.fits)) (omega (arith, over, ap (λ kids. length (next_level seen kids)) c.deref.ensures.value))

pub returns-then-is_empty : goal.returns-then-is_empty
returns-then-is_empty g c =
    let seen = g.L.Look.seen c.args.look.now in
    let res = c.args.res.now in
    let level = c.loop-reached.level.items in
    let left = c.loop-reached.room - c.len.result in
    let found = rw c.in-Some.is at c.in_ok-next.ensures in
    let next = level_more seen res c.loop-reached.reached c.loop-reached.room left level c.in-Some.next.items c.loop-reached.invariant (omega (arith, c.len.ensures, c.loop-reached.invariant.fits))
    (found.0 ∙ ap (next_level seen) c.deref.ensures.value) (omega (arith, found.1, ap length found.0)) in
    none_deeper seen res c.args.depth (c.loop-reached.reached + 1) left c.in-Some.next.items next (omega (arith, eqb-true c.in-Some.next.len 0 (sym c.if-is_empty.ensures), c.in-Some.next.ok))
    (omega (arith, c.loop-reached.auto)) (omega (arith, c.loop-reached.auto, c.loop-reached-test.true))

pub loop-reached-preserved : goal.loop-reached-preserved
loop-reached-preserved g c =
    let seen = g.L.Look.seen c.args.look.now in
    let res = c.args.res.now in
    let level = c.loop-reached.level.items in
    let left = c.loop-reached.room - c.len.result in
    let found = rw c.in-Some.is at c.in_ok-next.ensures in
    level_more seen res c.loop-reached.reached c.loop-reached.room left level c.in-Some.next.items c.loop-reached.invariant (omega (arith, c.len.ensures, c.loop-reached.invariant.fits))
    (found.0 ∙ ap (next_level seen) c.deref.ensures.value) (omega (arith, found.1, ap length found.0))

pub returns : goal.returns
returns g c =
    let seen = g.L.Look.seen c.args.look.now in
    let res = c.args.res.now in
    let end : c.loop-reached.reached ≡ c.args.depth = omega (arith, c.loop-reached.auto, c.loop-reached-test.false, c.requires.deep) in
    all_fit (shown_count seen res) c.args.depth (omega (arith, c.requires.deep))
    (subst (λ n. shown_count seen res n ≤ 1000) end (level_fits seen res c.loop-reached.reached c.loop-reached.room c.loop-reached.level.items c.loop-reached.invariant))
