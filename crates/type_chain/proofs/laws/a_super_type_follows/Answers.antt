use Rattle.type_chain.proofs.StepLemmas.{super_follows}
use Rattle.type_chain.proofs.laws.a_super_type_follows.Goals as goal

pub returns : goal.returns
returns c = super_follows
