use Rattle.post_apply.proofs.GoodLemmas.{good_after}
use Rattle.post_apply.proofs.laws.operations_keep_content_good.Goals as goal

pub returns : goal.returns
returns c = good_after
