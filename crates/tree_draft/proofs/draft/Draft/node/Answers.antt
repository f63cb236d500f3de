use Rattle.std.proofs.Common.{◌≡◌, ◌∙◌, ap, subst, sym, Some, None, true}
use Rattle.std.specs.Option.{option_copied}
use Rattle.resource_tree.specs.Content.{node_at}
use Rattle.resource_tree.specs.Patches.{entry_at, left_by}
use Rattle.resource_tree.proofs.Patching.{node_at-patching, sorted-patching}
use Rattle.tree_draft.specs.Drafts.{DraftedContent}
use Rattle.tree_draft.proofs.DraftLemmas.{IsOrdered, entry_left}
use Rattle.tree_draft.proofs.draft.Draft.node.Goals as goal

pub returns-in-Some-clause-value : goal.returns-in-Some-clause-value
returns-in-Some-clause-value c =
    let tree = c.self.inside.tree.now in
    let entries = c.self.inside.entries.entries in
    let path = c.args.path.now in
    let entry : entry_at entries path ≡ Some c.in-Some.entry.now = sym c.get.ensures.value ∙ ap option_copied c.in-Some.is in
    c.changed_node.ensures
    ∙ sym (ap (λ (d : DraftedContent). node_at d.content path) (sym c.self.view_is) ∙ node_at-patching tree entries path c.len-nodes.ensures.good.ordered c.len-entries.ensures.unique ∙ ap (λ r. left_by r (node_at tree path)) entry
    ∙ entry_left true c.in-Some.entry.now None (node_at tree path))

pub returns-in-Some-clause-ordered : goal.returns-in-Some-clause-ordered
returns-in-Some-clause-ordered c = subst (λ (d : DraftedContent). IsOrdered d.content) c.self.view_is (sorted-patching c.self.inside.tree.now c.self.inside.entries.entries c.len-nodes.ensures.good.ordered)

pub returns-in-None-clause-value : goal.returns-in-None-clause-value
returns-in-None-clause-value c =
    let tree = c.self.inside.tree.now in
    let entry : entry_at c.self.inside.entries.entries c.args.path.now ≡ None = sym c.get.ensures.value ∙ ap option_copied c.in-None.is in
    c.kept_node.ensures
    ∙ c.node.ensures
    ∙ sym (ap (λ (d : DraftedContent). node_at d.content c.args.path.now) (sym c.self.view_is) ∙ node_at-patching tree c.self.inside.entries.entries c.args.path.now c.len-nodes.ensures.good.ordered c.len-entries.ensures.unique ∙ ap (λ r. left_by r (node_at tree c.args.path.now)) entry)

pub returns-in-None-clause-ordered : goal.returns-in-None-clause-ordered
returns-in-None-clause-ordered c = subst (λ (d : DraftedContent). IsOrdered d.content) c.self.view_is (sorted-patching c.self.inside.tree.now c.self.inside.entries.entries c.len-nodes.ensures.good.ordered)
