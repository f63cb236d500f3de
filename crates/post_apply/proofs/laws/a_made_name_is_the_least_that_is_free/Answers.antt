use Rattle.post_apply.proofs.FreeLemmas.{made_name}
use Rattle.post_apply.proofs.laws.a_made_name_is_the_least_that_is_free.Goals as goal

pub returns : goal.returns
returns c = made_name
