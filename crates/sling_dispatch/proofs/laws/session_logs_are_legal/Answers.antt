use Rattle.sling_dispatch.proofs.SessionLemmas.{session_begins}
use Rattle.sling_dispatch.proofs.laws.session_logs_are_legal.Goals as goal

pub returns : goal.returns
returns c = λ s left events session. c.logs_are_legal.ensures.legal _ events (session_begins session.farm session.tree) session.run
