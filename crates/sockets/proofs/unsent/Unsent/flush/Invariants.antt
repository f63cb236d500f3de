use Rattle.std.proofs.Common.{length}
use Rattle.sockets.specs.Given.{IsGiven}
use Rattle.sockets.proofs.unsent.Unsent.flush.Given as goal

-- what was due at the beginning was taken so far, or waits
abbrev pub invariant-loop-to : goal.invariant-loop-to
invariant-loop-to g l = IsGiven (g.P.Peer.taken l.fn.to) (g.P.Peer.taken l.to) l.fn.self l.self

abbrev pub decreases-loop-to : goal.decreases-loop-to
decreases-loop-to g l = length l.self
