use Rattle.run_laws.proofs.AllowedLemmas.{events-add}
use Rattle.run_laws.proofs.laws.events_add_what_is_allowed.Goals as goal

pub returns : goal.returns
returns c = events-add
