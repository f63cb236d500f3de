use Rattle.sling_dispatch.proofs.SessionLemmas.{served}
use Rattle.sling_dispatch.proofs.laws.sessions_serve_kept_pages.Goals as goal

pub returns : goal.returns
returns c = served c.kept_pages_are_served.ensures.served
