use Rattle.std.proofs.Common.{◌≡◌, ◌≤◌, Some, None, suc, take, length, arith, sym, ◌∙◌, ap}
use Rattle.std.specs.Prelude.{option_map}
use Rattle.std.specs.Option.{option_copied, option_or}
use Rattle.resource_tree.specs.Content.{node_at}
use Rattle.overlay_merge.specs.Layers.{base_at}
use Rattle.overlay_merge.proofs.LayerLemmas.{base_below, base_ends, base_is, base_more, super_is}
use Rattle.overlay_merge.proofs.layers.base_of.Goals as goal

pub returns-in_default : goal.returns-in_default
returns-in_default c =
    let tree = c.args.tree.now in
    let path = c.args.path.now in
    let n = c.loop-n.n in
    let none : node_at tree (take n path) ≡ None = ap (node_at tree) (sym c.in_ok-first.ensures) ∙ sym c.in_default.ensures in
    let within : n ≤ length path = omega (arith, c.loop-n-test.true, c.depth-n-end.ensures.depth) in
    c.loop-n.invariant ∙ base_ends tree path n c.len.ensures.good.shape none within ∙ base_is tree path

pub loop-n-preserved : goal.loop-n-preserved
loop-n-preserved c =
    let tree = c.args.tree.now in
    let path = c.args.path.now in
    let n = c.loop-n.n in
    let at : node_at tree (take n path) ≡ Some c.in-Some.node.now = ap (node_at tree) (sym c.in_ok-first.ensures) ∙ sym c.in-Some.ensures in
    let text = option_copied c.text.result in
    c.deeper-base.ensures ∙ ap (option_or (option_map (base_at n) text)) c.loop-n.invariant ∙ sym (base_more tree path n text (super_is tree (take n path) c.in-Some.node.now text at c.text.ensures))

pub returns : goal.returns
returns c =
    let tree = c.args.tree.now in
    let path = c.args.path.now in
    let end : c.loop-n.n ≡ suc (length path) = omega (arith, c.loop-n-test.false, c.loop-n.auto.n-end, c.depth-n-end.ensures.depth) in
    c.loop-n.invariant ∙ ap (base_below tree path) end ∙ base_is tree path
