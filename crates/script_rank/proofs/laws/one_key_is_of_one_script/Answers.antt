use Rattle.script_rank.proofs.RankLemmas.{one_key}
use Rattle.script_rank.proofs.laws.one_key_is_of_one_script.Goals as goal

pub returns : goal.returns
returns c = one_key
