use Rattle.post_laws.proofs.GoneLemmas.{gone_after}
use Rattle.post_laws.proofs.laws.what_is_taken_away_is_gone.Goals as goal

pub returns : goal.returns
returns c = gone_after
