use Rattle.std.proofs.Common.{◌∙◌, ap, map}
use Rattle.flights.specs.Flights.{after_invalidation}
use Rattle.flights.proofs.FlightLemmas.{voided}
use Rattle.flights.proofs.flights.Flights.void.Goals as goal

pub invariant_of-self : goal.invariant_of-self
invariant_of-self c = voided c.args.level c.args.inv.now c.self.inside.items.cap c.self.inside.items.len c.self.inside.items.items c.void_all.new.flights c.self.invariant c.self.inside.items.ok.0 (c.void_all.ensures ∙ ap (map (after_invalidation c.args.level c.args.inv.now)) c.deref_mut.ensures.value)
