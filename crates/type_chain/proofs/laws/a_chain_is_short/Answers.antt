use Rattle.type_chain.proofs.ChainLaws.{chain-default, chain-length}
use Rattle.type_chain.proofs.laws.a_chain_is_short.Goals as goal

pub returns : goal.returns
returns c = record { default = chain-default; short = chain-length }
