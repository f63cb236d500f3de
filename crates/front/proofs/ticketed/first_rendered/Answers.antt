use Rattle.std.proofs.Common.{◌&&◌, sym, ◌∙◌}
use Rattle.run_events.specs.Events.{is_picked, is_rendered}
use Rattle.front.specs.declared.ticketed.TicketedFlight.{TicketedFlight}
use Rattle.front.proofs.PositionLemmas.{position-map}
use Rattle.front.proofs.ticketed.first_rendered.Goals as goal

pub returns : goal.returns
returns c = c.rendered_place.ensures ∙ sym (position-map (λ (flight : TicketedFlight). flight.flying) (λ flying. is_picked c.args.pick.now flying && is_rendered flying) c.args.flights.now)
