use Rattle.run_laws.proofs.AskLemmas.{flights-rising}
use Rattle.run_laws.proofs.CountLemmas.{connections-counted}
use Rattle.run_laws.proofs.laws.connections_and_flights_are_counted.Goals as goal

pub returns-clause-flights : goal.returns-clause-flights
returns-clause-flights c = flights-rising

pub returns-clause-connections : goal.returns-clause-connections
returns-clause-connections c = connections-counted
