use Rattle.std.proofs.Common.{List, IsSome, subst, sym}
use Rattle.flights.specs.declared.flight.Flight.{Flight}
use Rattle.flights.specs.Flights.{flight_at}
use Rattle.flights.proofs.FlightLemmas.{at-asked}
use Rattle.flights.proofs.flights.Flights.ask.Goals as goal

pub returns-clause-there : goal.returns-clause-there
returns-clause-there c = subst (λ (fs : List Flight). IsSome (flight_at c.args.flight.number fs)) (sym c.in-Ok.ensures.items) (at-asked c.args.flight c.self.inside.items.items)
