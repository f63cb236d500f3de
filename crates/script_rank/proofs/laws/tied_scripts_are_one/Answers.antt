use Rattle.script_rank.proofs.RankLemmas.{tied_scripts}
use Rattle.script_rank.proofs.laws.tied_scripts_are_one.Goals as goal

pub returns : goal.returns
returns c = tied_scripts
