use Rattle.std.proofs.Common.{◌≡◌, ◌+◌, ◌<◌, ◌≤◌, None, Some, take, length, cond, arith, refl, sym, ◌∙◌, ap}
use Rattle.std.proofs.Math.Seq.{take-length}
use Rattle.resource_tree.specs.Content.{node_at}
use Rattle.overlay_merge.specs.Walk.{kid_depth, last_below, resource_depth}
use Rattle.overlay_merge.proofs.WalkLemmas.{hiding_is, kid_ends, kid_next, resource_ends, resource_next}
use Rattle.overlay_merge.proofs.hiding.hiding_depths.Goals as goal

pub loop-k-init : goal.loop-k-init
unfolding last_below
loop-k-init c = (refl, refl)

pub returns-in_default : goal.returns-in_default
returns-in_default c =
    let tree = c.args.tree.now in
    let path = c.args.path.now in
    let k = c.loop-k.k in
    let good = c.len.ensures.good.shape in
    let none : node_at tree (take k path) ≡ None = ap (node_at tree) (sym c.in_ok-first.ensures) ∙ sym c.in_default.ensures in
    let less : k ≤ length path = omega (arith, c.loop-k-test.true, c.depth-depth.ensures.depth) in
    let least : k ≤ length path + 1 = omega (arith, less) in
    hiding_is tree path c.depth-depth.result c.loop-k.resource c.loop-k.kid c.depth-depth.ensures.depth
    (c.loop-k.invariant.0 ∙ resource_ends tree path k (length path + 1) good none least) (c.loop-k.invariant.1 ∙ kid_ends tree path k (length path) good none less)

pub loop-k-preserved : goal.loop-k-preserved
loop-k-preserved c =
    let tree = c.args.tree.now in
    let path = c.args.path.now in
    let k = c.loop-k.k in
    let at : node_at tree (take k path) ≡ Some c.in-Some.node.now = ap (node_at tree) (sym c.in_ok-first.ensures) ∙ sym c.in-Some.ensures in
    let within : k < length path = omega (arith, c.loop-k-test.true, c.depth-depth.ensures.depth) in (
      resource_next tree path k c.loop-k.resource c.latest-resource.result c.in-Some.node.now c.hides_resource.result at c.loop-k.invariant.0 c.hides_resource.ensures c.latest-resource.ensures,
      kid_next tree path k c.loop-k.kid c.latest-kid.result c.in-Some.node.now c.hides_next.result at c.loop-k.invariant.1 (c.hides_next.ensures within) c.latest-kid.ensures,
    )

pub returns-in-Some-node : goal.returns-in-Some-node
returns-in-Some-node c =
    let tree = c.args.tree.now in
    let path = c.args.path.now in
    let end : c.loop-k.k ≡ length path = omega (arith, c.loop-k-test.false, c.loop-k.auto.k-end, c.depth-depth.ensures.depth) in
    let at : node_at tree (take (length path) path) ≡ Some c.in-Some-node.node.now = ap (node_at tree) (take-length path) ∙ sym c.in-Some-node.ensures in
    let found = c.loop-k.invariant.0 ∙ ap (resource_depth tree path) end in
    hiding_is tree path c.depth-depth.result c.latest-resource-in-Some-node.result c.loop-k.kid c.depth-depth.ensures.depth
    (resource_next tree path (length path) c.loop-k.resource c.latest-resource-in-Some-node.result c.in-Some-node.node.now c.hides_resource-in-Some-node.result at found c.hides_resource-in-Some-node.ensures
    (c.latest-resource-in-Some-node.ensures ∙ ap (λ n. cond c.hides_resource-in-Some-node.result (n + 1) c.loop-k.resource) c.depth-depth.ensures.depth))
    (c.loop-k.invariant.1 ∙ ap (kid_depth tree path) end)

pub returns-in_default-node : goal.returns-in_default-node
returns-in_default-node c =
    let tree = c.args.tree.now in
    let path = c.args.path.now in
    let end : c.loop-k.k ≡ length path = omega (arith, c.loop-k-test.false, c.loop-k.auto.k-end, c.depth-depth.ensures.depth) in
    let none : node_at tree (take (length path) path) ≡ None = ap (node_at tree) (take-length path) ∙ sym c.in_default-node.ensures in
    hiding_is tree path c.depth-depth.result c.loop-k.resource c.loop-k.kid c.depth-depth.ensures.depth
    (c.loop-k.invariant.0 ∙ ap (resource_depth tree path) end ∙ resource_ends tree path (length path) (length path + 1) c.len.ensures.good.shape none (omega arith))
    (c.loop-k.invariant.1 ∙ ap (kid_depth tree path) end)
