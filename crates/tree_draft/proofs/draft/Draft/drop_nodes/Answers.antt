use Rattle.std.proofs.Common.{◌≡◌, ◌∙◌, ap, take, length, arith, cond, None}
use Rattle.std.specs.List.{list_any}
use Rattle.std.proofs.Math.Seq.{take-length}
use Rattle.resource_tree.specs.declared.patch.PatchNode.{PatchNode}
use Rattle.resource_tree.specs.declared.patch.PatchNode.TheVariants as patch_node
use Rattle.resource_tree.specs.Content.{Content, same_path, node_at}
use Rattle.resource_tree.specs.Patches.{over}
use Rattle.resource_tree.proofs.Without.{dropped_more, left_at, same_left}
use Rattle.tree_draft.proofs.DraftLemmas.{node_at-over}
use Rattle.tree_draft.proofs.draft.Draft.drop_nodes.Goals as goal

pub loop-below-preserved : goal.loop-below-preserved
loop-below-preserved c = (
  λ q. dropped_more c.args.self.now.content c.loop-below.self.content c.put.new.self.content c.args.paths.now c.loop-below.below-index c.below-item.result q c.loop-below-test.true c.below-item.is (c.loop-below.invariant.0 q)
      (ap (λ (t : Content). node_at t q) (c.in_ok-put.ensures.content ∙ ap (λ (r : PatchNode). over c.loop-below.self.content c.in_ok-duplicate.field-0 r) c.gone.ensures)
      ∙ node_at-over c.loop-below.self.content c.in_ok-duplicate.field-0 patch_node.Gone q c.loop-below.invariant.1
      ∙ ap (λ p. cond (same_path p q) None (node_at c.loop-below.self.content q)) c.in_ok-duplicate.ensures),
  c.in_ok-put.ensures.ordered,
  c.in_ok-put.ensures.counted c.loop-below.invariant.2,
  c.put.ensures.tree ∙ c.loop-below.invariant.3,
)

pub returns-clause-after : goal.returns-clause-after
returns-clause-after c =
    let old = c.args.self.now.content in
    let path = c.args.path.now in
    let at_end : c.loop-below.below-index ≡ length c.args.paths.now = omega arith in
    let all : take c.loop-below.below-index c.args.paths.now ≡ c.args.paths.now = ap (λ i. take i c.args.paths.now) at_end ∙ take-length c.args.paths.now in
    same_left path old c.loop-below.self.content c.requires.in_order c.loop-below.invariant.1
    (λ q. c.loop-below.invariant.0 q ∙ ap (λ b. cond b None (node_at old q)) (ap (list_any (same_path q)) all ∙ c.requires.all q) ∙ left_at path old q)
