use Rattle.run_laws.proofs.LogLemmas.{hits-fresh}
use Rattle.run_laws.proofs.laws.answers_of_hits_are_fresh.Goals as goal

pub returns : goal.returns
returns c = hits-fresh c.permitted_hits_are_of_landings.ensures c.a_permitted_hit_was_asked_for_after_each_flush.ensures
