use Rattle.sling_dispatch.proofs.ServedSessions.{again, left, there}
use Rattle.sling_dispatch.proofs.laws.served_sessions_go_on.Goals as goal

pub returns-clause-there : goal.returns-clause-there
returns-clause-there c = there

pub returns-clause-left : goal.returns-clause-left
returns-clause-left c = left (record { over = c.sessions_begin_in_legal_logs.ensures.over; first = c.sessions_begin_in_legal_logs.ensures.first }) c.served_sessions_leave_legal_logs.ensures

pub returns-clause-again : goal.returns-clause-again
returns-clause-again c = again (record { over = c.sessions_begin_in_legal_logs.ensures.over; first = c.sessions_begin_in_legal_logs.ensures.first }) c.served_sessions_leave_legal_logs.ensures
