use Rattle.type_chain.proofs.StepLemmas.{chain_is, chain_steps}
use Rattle.type_chain.proofs.laws.the_chain_is_determined.Goals as goal

pub returns : goal.returns
returns c = record { steps = chain_steps; alone = chain_is }
