use Rattle.std.proofs.Common.{subst}
use Rattle.type_chain.specs.Chain.{chain_of}
use Rattle.type_chain.specs.ScriptPlaces.{AreScriptPlacesOf}
use Rattle.script_rank.proofs.RankLemmas.{answers_first, answers_none}
use Rattle.script_rank.proofs.ScriptPlaceLemmas.{answers_same}
use Rattle.script_rank.proofs.ranking.script_of.Goals as goal

pub returns : goal.returns
returns c =
    let tree = c.args.tree.now in
    let types = chain_of tree c.args.props.now in
    let parts = c.args.parts.now in
    let found = c.script_place_search.result in
    let script_places = subst (λ ts. AreScriptPlacesOf tree ts c.in_ok-chain.chain.script_places) c.in_ok-chain.ensures.types c.in_ok-chain.ensures.script_places in
    let value = answers_same tree types _ _ parts found c.len.ensures.good script_places c.as_slice.ensures c.script_place_search.ensures in
    record {
      some = answers_first tree types parts found value;
      none = answers_none tree types parts found value;
      value = value;
    }
