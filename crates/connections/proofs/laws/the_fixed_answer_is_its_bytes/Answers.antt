use Rattle.connections.proofs.FixedLemmas.{answer_fixed, fixed_is}
use Rattle.connections.proofs.laws.the_fixed_answer_is_its_bytes.Goals as goal

pub returns-clause-bytes : goal.returns-clause-bytes
returns-clause-bytes c = answer_fixed

pub returns-clause-only : goal.returns-clause-only
returns-clause-only c = fixed_is
