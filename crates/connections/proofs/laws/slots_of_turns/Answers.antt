use Rattle.connections.proofs.TurnLemmas.{of-turns}
use Rattle.connections.proofs.laws.slots_of_turns.Goals as goal

pub returns : goal.returns
returns c = of-turns
