use Rattle.std.proofs.Common.{◌≡◌, ◌++◌, map, take, drop}
use Rattle.flights.specs.Flights.{after_invalidation}
use Rattle.flights.proofs.flights.void_all.Given as goal

abbrev pub invariant-loop-flight : goal.invariant-loop-flight
invariant-loop-flight l = l.flights ≡ map (after_invalidation l.level l.inv) (take l.flight-index l.initial.flights) ++ drop l.flight-index l.initial.flights
