use Rattle.http_front.proofs.TurnLemmas.{prefix}
use Rattle.http_front.proofs.laws.the_turns_of_a_beginning.Goals as goal

pub returns : goal.returns
returns c = prefix
