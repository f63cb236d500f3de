use Rattle.serve_loop.proofs.PartLemmas.{one_slice}
use Rattle.serve_loop.proofs.laws.turns_end_with_one_slice.Goals as goal

pub returns : goal.returns
returns c = one_slice (record { rendered = c.rounds_take_flights_out_of_the_air.ensures.rendered; landed = c.rounds_take_flights_out_of_the_air.ensures.landed; same = c.rounds_take_flights_out_of_the_air.ensures.same; unrendered = c.rounds_take_flights_out_of_the_air.ensures.unrendered }) c.events_leave_nothing_due.ensures.event
