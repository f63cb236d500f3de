use Rattle.run_laws.proofs.CuttingLemmas.{cut-alike}
use Rattle.run_laws.proofs.laws.a_cutting_changes_no_byte.Goals as goal

pub returns : goal.returns
returns c = cut-alike c.the_turns_of_a_beginning.ensures c.connections_are_answered_in_order.ensures.streams
