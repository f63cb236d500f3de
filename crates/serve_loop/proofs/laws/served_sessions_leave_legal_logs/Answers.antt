use Rattle.serve_loop.proofs.LeavingLemmas.{leaves}
use Rattle.serve_loop.proofs.laws.served_sessions_leave_legal_logs.Goals as goal

pub returns : goal.returns
returns c = leaves c.logs_are_legal.ensures.legal c.events_keep_the_farm.ensures.farm
