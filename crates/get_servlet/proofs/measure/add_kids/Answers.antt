use Rattle.std.proofs.Common.{◌+◌, ◌++◌, length, take, sym, ◌∙◌, ap, arith, append_assoc, append-nil, length-append}
use Rattle.sp_base.proofs.ListLemmas.{take_more_of}
use Rattle.get_servlet.specs.Rendering.{shown_kid}
use Rattle.get_servlet.specs.Steps.{kid_list, kids_under, shown_kids}
use Rattle.get_servlet.proofs.CountLemmas.{kids_under-nil, kids_under-more, kids_under-taken}
use Rattle.get_servlet.proofs.measure.add_kids.Goals as goal

pub loop-name-init : goal.loop-name-init
loop-name-init g c =
    let level = c.args.level.now.items in
    sym (ap (λ kids. level ++ kids) (kids_under-nil (g.L.Look.seen c.args.look.now) c.args.path.now c.args.res.now) ∙ append-nil level)

pub returns-then-len-most : goal.returns-then-len-most
returns-then-len-most g c =
    let seen = g.L.Look.seen c.args.look.now in
    let path = c.args.path.now in
    let res = c.args.res.now in
    let level = c.args.level.now.items in
    let i = c.loop-name.name-index in
    omega (
      arith,
      c.len.ensures,
      c.if-len-most.true,
      ap length c.loop-name.invariant,
      length-append level (kids_under seen path res (take i res.kids)),
      length-append level (shown_kids seen path res),
      kids_under-taken seen path res i,
    )

pub loop-name-preserved : goal.loop-name-preserved
loop-name-preserved g c =
    let seen = g.L.Look.seen c.args.look.now in
    let path = c.args.path.now in
    let res = c.args.res.now in
    let level = c.args.level.now.items in
    let i = c.loop-name.name-index in
    let more = take_more_of c.kids-name-items.result.now res.kids i c.name-item.result c.kids-name-items.ensures (omega arith) c.name-item.is in
    let first = kids_under seen path res (take i res.kids) in
    let kid = kid_list (shown_kid seen path res c.text.result.now) in
    c.in_ok-add_kid.ensures ∙ ap (λ kids. kids ++ kid) c.loop-name.invariant ∙ append_assoc level first kid
    ∙ ap (λ kids. level ++ kids) (sym (kids_under-more seen path res (take i res.kids) (take (i + 1) res.kids) c.name-item.result c.text.result.now more c.text.ensures))
