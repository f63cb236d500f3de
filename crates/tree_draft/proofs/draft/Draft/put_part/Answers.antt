use Rattle.std.proofs.Common.{◌∙◌, ap}
use Rattle.resource_tree.specs.Content.{Content}
use Rattle.resource_tree.specs.Patches.{patching}
use Rattle.tree_draft.proofs.draft.Draft.put_part.Goals as goal

pub returns-clause-content : goal.returns-clause-content
returns-clause-content c = c.in_ok-put_all.ensures.content ∙ ap (λ (t : Content). patching t c.args.part.entries) c.in_ok-add_kid.ensures.content
