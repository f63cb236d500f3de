use Rattle.flights.proofs.FlightLemmas.{left}
use Rattle.flights.proofs.flights.Flights.lose.Goals as goal

pub invariant_of-self : goal.invariant_of-self
invariant_of-self c = left c.ticket.inside.number _ _ c.self.inside.items.items c.take_flight.new.flights.items c.self.invariant c.take_flight.ensures.room c.take_flight.ensures.left
