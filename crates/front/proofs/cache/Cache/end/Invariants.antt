use Rattle.std.specs.Prelude.{length}
use Rattle.front.proofs.cache.Cache.end.Given as goal

abbrev pub decreases-loop : goal.decreases-loop
decreases-loop l = length l.self.flying
