use Rattle.std.proofs.Common.{◌≤◌, ◌∙◌, length, ap, sym, arith}
use Rattle.std.proofs.lemmas.List.{take_all}
use Rattle.resource_tree.specs.Patches.{PatchEntries}
use Rattle.url_maps.specs.PatternRows.{touches}
use Rattle.url_maps.proofs.RowLemmas.{touch_here, touch_next}
use Rattle.url_maps.proofs.patterns.touches.Goals as goal

pub returns-then-is_of_family : goal.returns-then-is_of_family
returns-then-is_of_family c =
    sym (touch_here c.args.patch.now c.args.parent.now c.loop-place.place (c.in-Some.entry.0.now, c.in-Some.entry.1.now) (sym c.in-Some.ensures) (sym c.is_of_family.ensures ∙ c.if-is_of_family.true))

pub loop-place-preserved : goal.loop-place-preserved
loop-place-preserved c =
    touch_next c.args.patch.now c.args.parent.now c.loop-place.place (c.in-Some.entry.0.now, c.in-Some.entry.1.now) (sym c.in-Some.ensures) (sym c.is_of_family.ensures ∙ c.if-is_of_family.false) c.loop-place.invariant

pub returns : goal.returns
returns c =
    let patch = c.args.patch.now in
    let end : length patch ≤ c.loop-place.place = omega (arith, c.loop-place-test.false, c.len-place-end.ensures.len) in
    sym (ap (λ (p : PatchEntries). touches p c.args.parent.now) (sym (take_all c.loop-place.place patch end)) ∙ c.loop-place.invariant)
