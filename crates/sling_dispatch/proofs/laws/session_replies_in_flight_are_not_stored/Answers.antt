use Rattle.sling_dispatch.proofs.SessionLemmas.{not_stored}
use Rattle.sling_dispatch.proofs.laws.session_replies_in_flight_are_not_stored.Goals as goal

pub returns : goal.returns
returns c = not_stored c.replies_in_flight_are_not_stored.ensures
