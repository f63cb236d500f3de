use Rattle.publisher.proofs.PostLemmas.{refusals_keep}
use Rattle.publisher.proofs.laws.refusals_change_nothing.Goals as goal

pub returns : goal.returns
returns c = refusals_keep
