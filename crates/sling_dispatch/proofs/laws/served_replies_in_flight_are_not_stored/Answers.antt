use Rattle.sling_dispatch.proofs.ServedSessions.{not_stored_served}
use Rattle.sling_dispatch.proofs.laws.served_replies_in_flight_are_not_stored.Goals as goal

pub returns : goal.returns
returns c = not_stored_served (record { over = c.sessions_begin_in_legal_logs.ensures.over; first = c.sessions_begin_in_legal_logs.ensures.first }) c.replies_in_flight_are_not_stored.ensures
