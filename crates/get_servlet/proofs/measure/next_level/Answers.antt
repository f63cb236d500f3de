use Rattle.std.proofs.Common.{◌+◌, ◌++◌, length, sym, ◌∙◌, ap, arith}
use Rattle.get_servlet.specs.Steps.{shown_kids}
use Rattle.get_servlet.proofs.CountLemmas.{next_level-nil, next_level-more, next_level-taken}
use Rattle.get_servlet.proofs.measure.next_level.Goals as goal

pub loop-kid-init : goal.loop-kid-init
loop-kid-init g c = (c.new-next.ensures.items ∙ sym (next_level-nil (g.L.Look.seen c.args.look.now)), omega (arith, ap length c.new-next.ensures.items))

pub returns-then-not-branch : goal.returns-then-not-branch
returns-then-not-branch g c =
    let seen = g.L.Look.seen c.args.look.now in
    let level = c.args.level.now in
    let i = c.loop-kid.kid-index in
    let kid = c.kid-item.result in
    let over = rw c.if-not-branch.true at c.in_ok-add_kids.ensures in
    let kids = ap (λ kids. kids ++ shown_kids seen kid.path kid.res) c.loop-kid.invariant.0 ∙ sym (next_level-more seen level i kid (omega arith) c.kid-item.is) in
    omega (arith, over, ap length kids, next_level-taken seen level (i + 1))

pub loop-kid-preserved : goal.loop-kid-preserved
loop-kid-preserved g c =
    let seen = g.L.Look.seen c.args.look.now in
    let level = c.args.level.now in
    let i = c.loop-kid.kid-index in
    let kid = c.kid-item.result in
    let found = rw c.if-not-branch.false at c.in_ok-add_kids.ensures in
    let kids = ap (λ kids. kids ++ shown_kids seen kid.path kid.res) c.loop-kid.invariant.0 ∙ sym (next_level-more seen level i kid (omega arith) c.kid-item.is) in
    (found.0 ∙ kids, omega (arith, ap length found.0, found.1))
