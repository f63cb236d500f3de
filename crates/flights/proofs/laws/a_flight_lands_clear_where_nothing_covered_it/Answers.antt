use Rattle.flights.proofs.HistoryLemmas.{lands-clear, lands-voided, lands-unkeyed}
use Rattle.flights.proofs.laws.a_flight_lands_clear_where_nothing_covered_it.Goals as goal

pub returns-clause-clear : goal.returns-clause-clear
returns-clause-clear c = lands-clear

pub returns-clause-voided : goal.returns-clause-voided
returns-clause-voided c = lands-voided

pub returns-clause-unkeyed : goal.returns-clause-unkeyed
returns-clause-unkeyed c = lands-unkeyed
