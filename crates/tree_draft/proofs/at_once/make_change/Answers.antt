use Rattle.std.proofs.Common.{◌∙◌, ap}
use Rattle.resource_tree.specs.Content.{Content, node_at}
use Rattle.tree_draft.proofs.AtOnceLemmas.{node_at-changed}
use Rattle.tree_draft.proofs.at_once.make_change.Goals as goal

pub returns-clause-look_ups : goal.returns-clause-look_ups
returns-clause-look_ups c = λ q.
    ap (λ (t : Content). node_at t q) (c.in_ok-apply.ensures.ok ∙ c.in_ok-patch.ensures.ok)
    ∙ node_at-changed c.args.tree.now c.args.change q c.len-nodes.ensures.good c.in_ok-patch.ensures.allowed
