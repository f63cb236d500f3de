use Rattle.run_laws.proofs.LogLemmas.{replies-passed}
use Rattle.run_laws.proofs.laws.replies_in_flight_are_not_stored.Goals as goal

pub returns : goal.returns
returns c = replies-passed
