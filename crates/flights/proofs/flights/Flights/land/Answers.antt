use Rattle.flights.proofs.FlightLemmas.{left, page-found}
use Rattle.flights.proofs.flights.Flights.land.Goals as goal

pub landing_of-requires : goal.landing_of-requires
landing_of-requires c = page-found c.ticket.inside.number c.self.inside.items.items c.take_flight-flight.result c.self.invariant.2 c.take_flight-flight.ensures.found

pub invariant_of-self : goal.invariant_of-self
invariant_of-self c = left c.ticket.inside.number _ _ c.self.inside.items.items c.take_flight-flight.new.flights.items c.self.invariant c.take_flight-flight.ensures.room c.take_flight-flight.ensures.left
