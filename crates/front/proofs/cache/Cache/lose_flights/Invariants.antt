use Rattle.std.specs.Prelude.{length}
use Rattle.front.specs.Restarts.{HasLost}
use Rattle.front.proofs.cache.Cache.lose_flights.Given as goal

abbrev pub invariant-loop-ended : goal.invariant-loop-ended
invariant-loop-ended l = HasLost l.fn.self l.self l.fn.notes.items l.notes.items

abbrev pub decreases-loop-ended : goal.decreases-loop-ended
decreases-loop-ended l = length l.self.flying
