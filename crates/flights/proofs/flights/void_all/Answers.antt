use Rattle.std.proofs.Common.{◌∙◌, sym, ap, set}
use Rattle.std.proofs.lemmas.List.Edits.{map_over_more}
use Rattle.flights.specs.Flights.{after_invalidation}
use Rattle.flights.proofs.flights.void_all.Goals as goal

pub loop-flight-preserved : goal.loop-flight-preserved
loop-flight-preserved c =
    ap (λ f. set c.loop-flight.flights c.loop-flight.flight-index f) (c.void_flight.ensures ∙ ap (after_invalidation c.args.level c.args.inv.now) (sym c.flight-item.is))
    ∙ map_over_more (after_invalidation c.args.level c.args.inv.now) c.args.flights.now c.loop-flight.flights c.loop-flight.flight-index c.flight-item.result c.loop-flight-test.true c.loop-flight.invariant c.flight-item.is
