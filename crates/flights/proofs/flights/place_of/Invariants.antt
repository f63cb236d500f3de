use Rattle.std.proofs.Common.{◌≡◌, ◌++◌, take, drop}
use Rattle.flights.specs.Flights.{flight_at, without}
use Rattle.flights.proofs.flights.place_of.Given as goal

abbrev pub invariant-loop-i : goal.invariant-loop-i
invariant-loop-i l = record {
  found : flight_at l.number (drop l.i l.flights) ≡ flight_at l.number l.flights;
  rest : take l.i l.flights ++ without l.number (drop l.i l.flights) ≡ without l.number l.flights;
}
