use Rattle.std.proofs.Common.{◌∙◌, ap, sym, length}
use Rattle.std.proofs.lemmas.Result.{on_ok_weaker}
use Rattle.resource_tree.specs.Content.{Content}
use Rattle.resource_tree.specs.Changes.{with_kids}
use Rattle.resource_tree.proofs.NodeLookups.{length-change_at}
use Rattle.tree_draft.proofs.DraftLemmas.{changed_entry_put_back}
use Rattle.tree_draft.proofs.draft.Draft.put_kids.Goals as goal

pub returns-clause-content : goal.returns-clause-content
returns-clause-content c =
    on_ok_weaker c.insert.result
    (changed_entry_put_back c.args.self.now.content c.take_with_kids.new.self.content c.insert.new.self.content c.args.path.now _ c.in_ok-entry.entry (with_kids c.args.kids) c.take_with_kids.ensures.ordered c.insert.ensures.before c.in_ok-entry.ensures.value c.take_with_kids.ensures.others
    c.in_ok-duplicate.ensures)
    c.insert.ensures.content

pub returns-clause-counted : goal.returns-clause-counted
returns-clause-counted c =
    on_ok_weaker c.insert.result (λ is was.
    c.insert.ensures.count
    ∙ c.take_with_kids.ensures.count
    ∙ was
    ∙ sym (ap (λ (t : Content). length t) is ∙ length-change_at c.args.self.now.content c.args.path.now (with_kids c.args.kids))) (returns-clause-content c)
