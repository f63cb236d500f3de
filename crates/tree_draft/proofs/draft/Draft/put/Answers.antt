use Rattle.std.proofs.Common.{rules, ◌≡◌, ◌∙◌, ap}
use Rattle.std.specs.Prelude.{is_some}
use Rattle.resource_tree.specs.Content.{node_at}
use Rattle.tree_draft.specs.Drafts.{DraftedContent}
use Rattle.tree_draft.specs.Edits.{is_node}
use Rattle.tree_draft.proofs.DraftLemmas.{recounted}
use Rattle.tree_draft.proofs.draft.Draft.put.Goals as goal

pub returns-clause-counted : goal.returns-clause-counted
returns-clause-counted c = λ was.
    let found : c.is_some.result ≡ is_some (node_at c.args.self.now.content c.args.path) = search rules in
    let entry_is : c.is_node.result ≡ is_node c.args.entry = search rules in
    recounted c.in_ok-count.count c.self.inside.count _ c.args.self.now.content c.args.path c.args.entry c.is_some.result c.is_node.result (ap (λ (d : DraftedContent). d.content) c.self-2.view_is ∙ c.in_ok-insert.ensures.content) c.node.ensures.ordered found entry_is c.in_ok-count.ensures
    (ap (λ (d : DraftedContent). d.count) c.self.view_is ∙ was)
