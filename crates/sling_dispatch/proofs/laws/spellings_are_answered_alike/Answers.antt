use Rattle.sling_dispatch.proofs.DirectLemmas.{same_answer}
use Rattle.sling_dispatch.proofs.laws.spellings_are_answered_alike.Goals as goal

pub returns : goal.returns
returns c = same_answer
