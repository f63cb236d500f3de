use Rattle.connections.proofs.RestLemmas.{each-treated}
use Rattle.connections.proofs.laws.each_turn_is_treated.Goals as goal

pub returns : goal.returns
returns c = each-treated
