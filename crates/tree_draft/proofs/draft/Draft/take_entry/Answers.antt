use Rattle.std.proofs.Common.{◌∙◌, ap, subst, sym}
use Rattle.resource_tree.specs.Content.{node_at}
use Rattle.resource_tree.specs.Patches.{entry_at, left_by}
use Rattle.resource_tree.proofs.Patching.{node_at-patching, sorted-patching}
use Rattle.tree_draft.specs.Drafts.{DraftedContent}
use Rattle.tree_draft.proofs.DraftLemmas.{IsOrdered}
use Rattle.tree_draft.proofs.draft.Draft.take_entry.Goals as goal

pub returns-clause-value : goal.returns-clause-value
returns-clause-value c =
    let entries = c.self.inside.entries.entries in
    let path = c.args.path.now in
    ap (λ r. left_by r (node_at c.args.self.now.tree path)) c.swap_remove.ensures.value
    ∙ ap (λ (d : DraftedContent). left_by (entry_at entries path) (node_at d.tree path)) (sym c.self.view_is)
    ∙ sym (node_at-patching c.self.inside.tree.now entries path c.len-nodes.ensures.good.ordered c.len-entries.ensures.unique)
    ∙ ap (λ (d : DraftedContent). node_at d.content path) c.self.view_is

pub returns-clause-others : goal.returns-clause-others
returns-clause-others c = λ q apart.
    let tree = c.self.inside.tree.now in
    let sorted = c.len-nodes.ensures.good.ordered in
    node_at-patching tree c.swap_remove.new.self.entries q sorted c.swap_remove.ensures.unique
    ∙ ap (λ r. left_by r (node_at tree q)) (c.swap_remove.ensures.updates.2 q apart)
    ∙ sym (node_at-patching tree c.self.inside.entries.entries q sorted c.len-entries.ensures.unique)
    ∙ ap (λ (d : DraftedContent). node_at d.content q) c.self.view_is

pub returns-clause-ordered : goal.returns-clause-ordered
returns-clause-ordered c = subst (λ (d : DraftedContent). IsOrdered d.content) c.self.view_is (sorted-patching c.self.inside.tree.now c.self.inside.entries.entries c.len-nodes.ensures.good.ordered)
