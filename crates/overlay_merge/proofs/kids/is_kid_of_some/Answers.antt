use Rattle.std.proofs.Common.{◌||◌, ◌+◌, drop, sym, ◌∙◌, ap}
use Rattle.std.specs.Prelude.{is_some}
use Rattle.std.specs.List.{list_any}
use Rattle.resource_tree.specs.Content.{kid, node_at}
use Rattle.resource_tree.specs.Seen.{Resource}
use Rattle.overlay_merge.specs.Kids.{has_text}
use Rattle.overlay_merge.proofs.KidLemmas.{any_kid}
use Rattle.overlay_merge.proofs.kids.is_kid_of_some.Goals as goal

pub returns-then-branch : goal.returns-then-branch
returns-then-branch c =
    let tree = c.args.tree.now in
    let layers = c.args.layers.now in
    let name = c.args.name.now in
    let i = c.loop-layer.layer-index in
    let layer = c.layer-item.result in
    let here = c.in_ok-has_node.ensures ∙ ap (λ p. is_some (node_at tree (kid p name))) c.path.ensures in
    let step = any_kid tree layers name i layer c.in_ok-has_node.field-0 c.len.ensures.good.shape c.requires c.loop-layer-test.true c.layer-item.is here in
    sym (sym c.loop-layer.invariant ∙ step ∙ ap (λ t. t || list_any (λ (l : Resource). has_text l.kids name) (drop (i + 1) layers)) c.if-branch.true)

pub loop-layer-preserved : goal.loop-layer-preserved
loop-layer-preserved c =
    let tree = c.args.tree.now in
    let layers = c.args.layers.now in
    let name = c.args.name.now in
    let i = c.loop-layer.layer-index in
    let layer = c.layer-item.result in
    let here = c.in_ok-has_node.ensures ∙ ap (λ p. is_some (node_at tree (kid p name))) c.path.ensures in
    let step = any_kid tree layers name i layer c.in_ok-has_node.field-0 c.len.ensures.good.shape c.requires c.loop-layer-test.true c.layer-item.is here in
    sym (step ∙ ap (λ t. t || list_any (λ (l : Resource). has_text l.kids name) (drop (i + 1) layers)) c.if-branch.false) ∙ c.loop-layer.invariant
