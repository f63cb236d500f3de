use Rattle.serve_loop.proofs.PartLemmas.{go_for_a_cause}
use Rattle.serve_loop.proofs.laws.connections_go_for_a_cause.Goals as goal

pub returns : goal.returns
returns c = go_for_a_cause
