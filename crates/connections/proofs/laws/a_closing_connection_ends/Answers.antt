use Rattle.connections.proofs.HistoryLemmas.{at-end}
use Rattle.connections.proofs.laws.a_closing_connection_ends.Goals as goal

pub returns : goal.returns
returns c = at-end
