use Rattle.sling_dispatch.proofs.ServedSessions.{kept_served}
use Rattle.sling_dispatch.proofs.laws.served_sessions_serve_kept_pages.Goals as goal

pub returns : goal.returns
returns c = kept_served c.kept_pages_are_served.ensures.served
