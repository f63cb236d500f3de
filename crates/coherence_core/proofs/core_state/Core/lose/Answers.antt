use Rattle.std.proofs.Common.{refl}
use Rattle.flights.specs.Flights.{flight_at}
use Rattle.coherence_core.proofs.DeliveryLemmas.{gone_lost, some_flight}
use Rattle.coherence_core.proofs.NoteLemmas.{known_same}
use Rattle.coherence_core.proofs.core_state.Core.lose.Goals as goal

pub returns-clause-log : goal.returns-clause-log
returns-clause-log c = λ told under found.
    let f = some_flight (flight_at c.args.ticket c.args.self.now.flights) c.requires in
    gone_lost found c.args.self.now c.args.ticket f.0 f.1 c.lose.new.self c.lose.ensures c.the_numbers_of_flights_rise.ensures.left told under

pub returns-clause-knows : goal.returns-clause-knows
returns-clause-knows c = λ told. known_same told c.args.self.now _ refl refl refl
