use Rattle.std.proofs.Common.{List, sym, subst, ◌∙◌, ap}
use Rattle.resource_tree.specs.Seen.{Resource}
use Rattle.overlay_merge.specs.Layers.{has_node}
use Rattle.overlay_merge.proofs.DescentLemmas.{none_merged}
use Rattle.overlay_merge.specs.Walk.{AreNodesOf, unscreened_resources}
use Rattle.overlay_merge.proofs.WalkLemmas.{merged_from-is}
use Rattle.overlay_merge.proofs.KidLemmas.{are_nodes_merged}
use Rattle.overlay_merge.proofs.merged_resources.merged_from.Goals as goal

pub returns-clause-layers : goal.returns-clause-layers
returns-clause-layers c =
    let tree = c.args.tree.now in
    merged_from-is tree c.args.path.now c.in_ok-layers.layers.items c.in_ok-screened.screened.items c.in_ok-list.list.items c.depth.ensures.valid c.in_ok-layers.ensures c.in_ok-screened.ensures
    (c.in_ok-list.ensures ∙ ap (unscreened_resources tree) c.deref-2.ensures.value)

pub returns-clause-nodes : goal.returns-clause-nodes
returns-clause-nodes c =
    let tree = c.args.tree.now in
    let is = merged_from-is tree c.args.path.now c.in_ok-layers.layers.items c.in_ok-screened.screened.items c.in_ok-list.list.items c.depth.ensures.valid c.in_ok-layers.ensures c.in_ok-screened.ensures
    (c.in_ok-list.ensures ∙ ap (unscreened_resources tree) c.deref-2.ensures.value) in
    subst (λ (l : List Resource). AreNodesOf tree l) (sym is) (are_nodes_merged tree c.args.path.now)

pub returns-then-not-has_node-clause-layers : goal.returns-then-not-has_node-clause-layers
returns-then-not-has_node-clause-layers c =
    let none = ap (has_node c.args.tree.now) (sym c.deref.ensures.value) ∙ sym c.has_node.ensures ∙ c.if-not-has_node.true in
    none_merged c.args.tree.now c.args.path.now c.in_ok-layers.layers.items c.new.result.items c.new.ensures.items c.in_ok-layers.ensures none
