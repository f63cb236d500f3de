use Rattle.type_chain.proofs.ChainLaws.{chain-first}
use Rattle.type_chain.proofs.laws.the_own_type_is_first.Goals as goal

pub returns : goal.returns
returns c = chain-first
