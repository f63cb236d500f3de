use Rattle.sling_dispatch.proofs.ServedSessions.{logs}
use Rattle.sling_dispatch.proofs.laws.served_logs_are_legal.Goals as goal

pub returns : goal.returns
returns c = logs (record { over = c.sessions_begin_in_legal_logs.ensures.over; first = c.sessions_begin_in_legal_logs.ensures.first }) (record { legal = c.logs_are_legal.ensures.legal; bound = c.logs_are_legal.ensures.bound })
