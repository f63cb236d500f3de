use Rattle.flights.proofs.HistoryLemmas.{at-new, at-asked_other, at-without_other, at-after, at-spent}
use Rattle.flights.proofs.laws.a_flight_is_there_until_its_ticket_is_spent.Goals as goal

pub returns-clause-asked : goal.returns-clause-asked
returns-clause-asked c = at-new

pub returns-clause-others_asked : goal.returns-clause-others_asked
returns-clause-others_asked c = at-asked_other

pub returns-clause-others_spent : goal.returns-clause-others_spent
returns-clause-others_spent c = at-without_other

pub returns-clause-voided : goal.returns-clause-voided
returns-clause-voided c = at-after

pub returns-clause-spent : goal.returns-clause-spent
returns-clause-spent c = at-spent
