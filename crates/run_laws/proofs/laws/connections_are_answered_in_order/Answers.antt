use Rattle.run_laws.proofs.StreamLemmas.{answered-in-order, answered-streams, read-all, slots-of-turns, stream-spells}
use Rattle.run_laws.proofs.laws.connections_are_answered_in_order.Goals as goal

pub returns-clause-answers : goal.returns-clause-answers
returns-clause-answers c = answered-in-order c.answers_in_order.ensures

pub returns-clause-slots : goal.returns-clause-slots
returns-clause-slots c = slots-of-turns c.slots_of_turns.ensures

pub returns-clause-spells : goal.returns-clause-spells
returns-clause-spells c = stream-spells

pub returns-clause-streams : goal.returns-clause-streams
returns-clause-streams c = answered-streams c.answers_in_order.ensures c.slots_of_turns.ensures c.each_turn_is_treated.ensures

pub returns-clause-reads : goal.returns-clause-reads
returns-clause-reads c = read-all
