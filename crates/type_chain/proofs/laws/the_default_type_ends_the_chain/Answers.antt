use Rattle.type_chain.proofs.StepLemmas.{chain_ends}
use Rattle.type_chain.proofs.laws.the_default_type_ends_the_chain.Goals as goal

pub returns : goal.returns
returns c = chain_ends
