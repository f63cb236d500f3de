use Rattle.type_chain.proofs.ChainLaws.{chain-follows}
use Rattle.type_chain.proofs.laws.each_type_is_the_super_type_of_the_one_before.Goals as goal

pub returns : goal.returns
returns c = chain-follows
