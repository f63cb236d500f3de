use Rattle.std.proofs.Common.{length}
use Rattle.tree_draft.proofs.FallLemmas.{standing_names-none, within-none}
use Rattle.tree_draft.proofs.kid_list.KidList.new.Goals as goal

pub returns : goal.returns
returns c = standing_names-none c.new.result 0 c.args.names c.new.ensures

pub invariant_of-result : goal.invariant_of-result
invariant_of-result c = within-none c.new.result (length c.args.names) c.new.ensures
