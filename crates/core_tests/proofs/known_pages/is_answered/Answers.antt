use Rattle.coherence_core.specs.Cores.{flight_labels}
use Rattle.core_tests.proofs.TicketLemmas.{asked_is_there}
use Rattle.core_tests.proofs.known_pages.is_answered.Goals as goal

pub lose-requires : goal.lose-requires
lose-requires c = asked_is_there c.request-got.new.self.flights (flight_labels c.args.core.now.flights) c.in-Asked.ticket c.in-Asked.field-1 (rw (c.in-Asked.is) at c.request-got.ensures.labels)
