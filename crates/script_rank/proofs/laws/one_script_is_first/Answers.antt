use Rattle.script_rank.proofs.RankLemmas.{one_first}
use Rattle.script_rank.proofs.laws.one_script_is_first.Goals as goal

pub returns : goal.returns
returns c = one_first
