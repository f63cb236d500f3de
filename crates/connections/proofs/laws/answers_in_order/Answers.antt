use Rattle.connections.proofs.HistoryLemmas.{in-order}
use Rattle.connections.proofs.laws.answers_in_order.Goals as goal

pub returns : goal.returns
returns c = in-order
