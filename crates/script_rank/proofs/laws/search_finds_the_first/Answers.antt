use Rattle.script_rank.proofs.RankLemmas.{search_first, search_none}
use Rattle.script_rank.proofs.laws.search_finds_the_first.Goals as goal

pub returns : goal.returns
returns c = record {
  first = search_first;
  none = search_none;
}
