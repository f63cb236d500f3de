use Rattle.std.proofs.Common.{◌∙◌, sym}
use Rattle.tree_draft.proofs.FallLemmas.{standing_names-none}
use Rattle.tree_draft.proofs.kid_list.KidList.into_list.Goals as goal

pub returns-then-is_empty : goal.returns-then-is_empty
returns-then-is_empty c = sym (standing_names-none c.self.inside.falls 0 c.self.inside.names (c.is_empty.ensures.0 c.if-is_empty.true)) ∙ c.self.view_is
