use Rattle.type_chain.proofs.ChainLaws.{chain-distinct}
use Rattle.type_chain.proofs.laws.no_type_repeats.Goals as goal

pub returns : goal.returns
returns c = chain-distinct
