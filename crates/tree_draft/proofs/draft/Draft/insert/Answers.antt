use Rattle.std.proofs.Common.{◌∙◌, ap, subst}
use Rattle.std.specs.Ordering.{eq_by_cmp}
use Rattle.std.specs.List.{IsDistinct}
use Rattle.std.specs.Map.{keys_of}
use Rattle.resource_tree.specs.Content.{by_path}
use Rattle.resource_tree.specs.Patches.{PatchEntries, patching, over}
use Rattle.resource_tree.proofs.Patching.{sorted-patching, with_entry-is}
use Rattle.tree_draft.specs.Drafts.{DraftedContent}
use Rattle.tree_draft.proofs.DraftLemmas.{IsOrdered, patching-with_entry}
use Rattle.tree_draft.proofs.draft.Draft.insert.Goals as goal

pub returns-clause-content : goal.returns-clause-content
returns-clause-content c =
    let tree = c.self.inside.tree.now in
    let entries = c.self.inside.entries.entries in
    let put = c.in_ok-insert.ensures.entries ∙ with_entry-is entries c.args.path c.args.entry in
    ap (patching tree) put
    ∙ patching-with_entry tree entries c.args.path c.args.entry c.len-nodes.ensures.good.ordered c.len-entries.ensures.unique
    (subst (λ (r : PatchEntries). IsDistinct (eq_by_cmp by_path) (keys_of r)) put c.in_ok-insert.ensures.unique)
    ∙ ap (λ (d : DraftedContent). over d.content c.args.path c.args.entry) c.self.view_is

pub returns-in_err-insert-clause-before : goal.returns-in_err-insert-clause-before
returns-in_err-insert-clause-before c = subst (λ (d : DraftedContent). IsOrdered d.content) c.self.view_is (sorted-patching c.self.inside.tree.now c.self.inside.entries.entries c.len-nodes.ensures.good.ordered)

pub returns-clause-before : goal.returns-clause-before
returns-clause-before c = subst (λ (d : DraftedContent). IsOrdered d.content) c.self.view_is (sorted-patching c.self.inside.tree.now c.self.inside.entries.entries c.len-nodes.ensures.good.ordered)

pub returns-clause-ordered : goal.returns-clause-ordered
returns-clause-ordered c = sorted-patching c.self.inside.tree.now c.insert.new.self.entries c.len-nodes.ensures.good.ordered
