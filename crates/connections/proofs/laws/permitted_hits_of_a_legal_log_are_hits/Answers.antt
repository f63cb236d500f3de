use Rattle.connections.proofs.HitLemmas.{legal-hit}
use Rattle.connections.proofs.laws.permitted_hits_of_a_legal_log_are_hits.Goals as goal

pub returns : goal.returns
returns c = legal-hit
