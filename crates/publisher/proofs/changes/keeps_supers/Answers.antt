use Rattle.std.proofs.Common.{◌≤◌, ◌∙◌, length, sym, ap, arith}
use Rattle.std.specs.List.{list_any}
use Rattle.std.proofs.lemmas.List.{take_all}
use Rattle.publisher.specs.FirstScripts.{names_super}
use Rattle.publisher.proofs.FirstLemmas.{keeps_supers, names_none_next}
use Rattle.publisher.proofs.changes.keeps_supers.Goals as goal

pub loop-position-preserved : goal.loop-position-preserved
loop-position-preserved c =
    names_none_next c.args.tree.now c.args.patch.now c.loop-position.position (c.in-Some.path.now, c.in-Some.row.now) (sym c.in-Some.ensures) c.loop-position.invariant
    (sym c.names_super_at.ensures ∙ c.if-names_super_at.false)

pub returns : goal.returns
returns c = λ _.
    let patch = c.args.patch.now in
    let end : length patch ≤ c.loop-position.position = omega (arith, c.loop-position-test.false, c.len-position-end.ensures.len) in
    keeps_supers c.args.tree.now patch (sym (ap (list_any (names_super c.args.tree.now)) (take_all c.loop-position.position patch end)) ∙ c.loop-position.invariant)
