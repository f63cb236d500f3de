use Rattle.post_apply.proofs.CauseLemmas.{posted_told}
use Rattle.post_apply.proofs.laws.refusals_have_causes.Goals as goal

pub returns : goal.returns
returns c = posted_told
