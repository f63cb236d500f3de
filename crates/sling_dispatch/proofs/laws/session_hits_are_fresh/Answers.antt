use Rattle.sling_dispatch.proofs.SessionLemmas.{fresh}
use Rattle.sling_dispatch.proofs.laws.session_hits_are_fresh.Goals as goal

pub returns : goal.returns
returns c = fresh c.answers_of_hits_are_fresh.ensures
