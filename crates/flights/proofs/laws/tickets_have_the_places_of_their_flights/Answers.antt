use Rattle.flights.proofs.HistoryLemmas.{numbers-asked, numbers-after, at-number, numbers-without}
use Rattle.flights.proofs.laws.tickets_have_the_places_of_their_flights.Goals as goal

pub returns-clause-asked : goal.returns-clause-asked
returns-clause-asked c = numbers-asked

pub returns-clause-voided : goal.returns-clause-voided
returns-clause-voided c = numbers-after

pub returns-clause-there : goal.returns-clause-there
returns-clause-there c = at-number

pub returns-clause-left : goal.returns-clause-left
returns-clause-left c = numbers-without
