use Rattle.flights.proofs.HistoryLemmas.{rising-more, rising-after, rising-without, at-above}
use Rattle.flights.proofs.laws.the_numbers_of_flights_rise.Goals as goal

pub returns-clause-asked : goal.returns-clause-asked
returns-clause-asked c = rising-more

pub returns-clause-voided : goal.returns-clause-voided
returns-clause-voided c = rising-after

pub returns-clause-left : goal.returns-clause-left
returns-clause-left c = rising-without

pub returns-clause-above : goal.returns-clause-above
returns-clause-above c = at-above
