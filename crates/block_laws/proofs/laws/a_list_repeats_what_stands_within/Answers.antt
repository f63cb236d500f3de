use Rattle.block_laws.proofs.Together.{each_round}
use Rattle.block_laws.proofs.laws.a_list_repeats_what_stands_within.Goals as goal

pub returns : goal.returns
returns c = each_round
