use Rattle.script_rank.proofs.RankLemmas.{answers_first, answers_none}
use Rattle.script_rank.proofs.ScriptPlaceLemmas.{answers_same}
use Rattle.script_rank.proofs.ranking.first_script.Goals as goal

pub returns : goal.returns
returns c =
    let tree = c.args.tree.now in
    let types = c.args.chain.now in
    let parts = c.args.parts.now in
    let found = c.script_place_search.result in
    let value = answers_same tree types _ _ parts found c.len.ensures.good c.in_ok-script_places.ensures c.as_slice.ensures c.script_place_search.ensures in
    record {
      some = answers_first tree types parts found value;
      none = answers_none tree types parts found value;
      value = value;
    }
