use Rattle.sling_dispatch.proofs.ServedSessions.{fresh_hits}
use Rattle.sling_dispatch.proofs.laws.served_hits_are_fresh.Goals as goal

pub returns : goal.returns
returns c = fresh_hits (record { over = c.sessions_begin_in_legal_logs.ensures.over; first = c.sessions_begin_in_legal_logs.ensures.first }) c.answers_of_hits_are_fresh.ensures
