use Rattle.std.proofs.Common.{◌∙◌, ap}
use Rattle.std.proofs.lemmas.Result.{on_ok_weaker}
use Rattle.sp_base.proofs.ResultLemmas.{OnOk-from}
use Rattle.resource_tree.specs.Changes.{change_at, with_kid}
use Rattle.tree_draft.proofs.draft.Draft.add_kid.Goals as goal

pub returns-clause-content : goal.returns-clause-content
returns-clause-content c =
    on_ok_weaker c.change.result (λ is. is ∙ ap (λ n. change_at c.args.self.now.content c.args.parent.now (with_kid n)) (c.in_ok-name.ensures ∙ c.name.ensures.name)) c.change.ensures.content

pub returns-clause-valid : goal.returns-clause-valid
returns-clause-valid c = OnOk-from c.change.result c.name.ensures.valid
