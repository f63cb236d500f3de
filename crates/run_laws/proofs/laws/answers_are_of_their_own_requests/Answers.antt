use Rattle.run_laws.proofs.EntryLemmas.{hits-entries}
use Rattle.run_laws.proofs.OwnRunLemmas.{answers-own}
use Rattle.run_laws.proofs.laws.answers_are_of_their_own_requests.Goals as goal

pub returns-clause-own : goal.returns-clause-own
returns-clause-own c = answers-own c.answers_in_order.ensures c.slots_of_turns.ensures c.each_turn_is_treated.ensures

pub returns-clause-hits : goal.returns-clause-hits
returns-clause-hits c = hits-entries
