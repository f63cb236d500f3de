use Rattle.http_front.specs.Intakes.{weight}
use Rattle.front.specs.KeptConnections.{TellsOn}
use Rattle.front.proofs.connection.read_turns.Given as goal

abbrev pub invariant-loop-turn : goal.invariant-loop-turn
invariant-loop-turn l = TellsOn l.fn.intake l.fn.turns.items l.intake l.turns.items

abbrev pub decreases-loop-turn : goal.decreases-loop-turn
decreases-loop-turn l = weight l.intake
