use Rattle.std.proofs.Common.{◌∙◌, sym, ap}
use Rattle.std.proofs.lemmas.Bool.{eqb-true}
use Rattle.flights.specs.declared.flight.Flight.{Flight}
use Rattle.flights.proofs.FlightLemmas.{found_at}
use Rattle.flights.proofs.flights.place_of.Goals as goal

pub returns-then-eq-clause-value : goal.returns-then-eq-clause-value
returns-then-eq-clause-value c = found_at c.args.number c.loop-i.i c.args.flights.now c.index-flights-i.result c.loop-i-test.true (ap (λ (f : Flight). f.number) (sym c.index-flights-i.is) ∙ eqb-true c.index-flights-i.result.number c.args.number (sym c.eq.ensures ∙ c.if-eq.true)) c.loop-i.invariant.found
