use Rattle.block_laws.proofs.LeftLemmas.{none_left}
use Rattle.block_laws.proofs.laws.no_statement_is_left.Goals as goal

pub returns : goal.returns
returns c = none_left
