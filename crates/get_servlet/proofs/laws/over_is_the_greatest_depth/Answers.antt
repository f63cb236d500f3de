use Rattle.get_servlet.proofs.AnswerLemmas.{over_exactly}
use Rattle.get_servlet.proofs.laws.over_is_the_greatest_depth.Goals as goal

pub returns : goal.returns
returns c = over_exactly
