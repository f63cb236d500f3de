use Rattle.cache_log.proofs.NumberLemmas.{flight-number, flush-number, one-inv, one-key}
use Rattle.cache_log.proofs.laws.flights_and_flushes_have_their_numbers.Goals as goal

pub returns-clause-key : goal.returns-clause-key
returns-clause-key c = one-key

pub returns-clause-inv : goal.returns-clause-inv
returns-clause-inv c = one-inv

pub returns-clause-flight : goal.returns-clause-flight
returns-clause-flight c = flight-number

pub returns-clause-flush : goal.returns-clause-flush
returns-clause-flush c = flush-number
