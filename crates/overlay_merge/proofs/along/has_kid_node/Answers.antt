use Rattle.std.proofs.Common.{◌||◌, ◌+◌, drop, sym, ◌∙◌, ap}
use Rattle.overlay_merge.specs.Walk.{has_kid_node}
use Rattle.overlay_merge.proofs.ReachLemmas.{kid_step}
use Rattle.overlay_merge.proofs.along.has_kid_node.Goals as goal

pub returns-then-branch : goal.returns-then-branch
returns-then-branch c =
    let tree = c.args.tree.now in
    let layers = c.args.layers.now in
    let name = c.args.name.now in
    let i = c.loop-layer.layer-index in
    let step = kid_step tree name layers i c.layer-item.result c.in_ok-has_node.field-0 c.loop-layer-test.true c.layer-item.is c.in_ok-has_node.ensures in
    sym (sym c.loop-layer.invariant ∙ step ∙ ap (λ t. t || has_kid_node tree name (drop (i + 1) layers)) c.if-branch.true)

pub loop-layer-preserved : goal.loop-layer-preserved
loop-layer-preserved c =
    let tree = c.args.tree.now in
    let layers = c.args.layers.now in
    let name = c.args.name.now in
    let i = c.loop-layer.layer-index in
    let step = kid_step tree name layers i c.layer-item.result c.in_ok-has_node.field-0 c.loop-layer-test.true c.layer-item.is c.in_ok-has_node.ensures in
    sym (step ∙ ap (λ t. t || has_kid_node tree name (drop (i + 1) layers)) c.if-branch.false) ∙ c.loop-layer.invariant
