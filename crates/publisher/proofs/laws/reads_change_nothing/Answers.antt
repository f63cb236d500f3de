use Rattle.publisher.proofs.PostLemmas.{reads_keep}
use Rattle.publisher.proofs.laws.reads_change_nothing.Goals as goal

pub returns : goal.returns
returns c = reads_keep
