use Rattle.std.proofs.Common.{◌&&◌, sym, ◌∙◌}
use Rattle.run_events.specs.Events.{is_picked, is_any}
use Rattle.front.specs.declared.ticketed.TicketedFlight.{TicketedFlight}
use Rattle.front.proofs.PositionLemmas.{position-map}
use Rattle.front.proofs.ticketed.first_picked.Goals as goal

pub returns : goal.returns
returns c = c.picked_place.ensures ∙ sym (position-map (λ (flight : TicketedFlight). flight.flying) (λ flying. is_picked c.args.pick.now flying && is_any flying) c.args.flights.now)
