use Rattle.resource_tree.specs.Content.{Content}
use Rattle.script_rank.specs.Index.{IsScriptIndexOf}
use Rattle.script_rank.proofs.RankLemmas.{answers_first, answers_none}
use Rattle.script_rank.proofs.ScriptPlaceLemmas.{answers_listed}
use Rattle.script_rank.proofs.index.ScriptIndex.first.Goals as goal

pub returns : goal.returns
returns c =
    let types = c.args.chain.now in
    let parts = c.args.parts.now in
    let found = c.script_place_search.result in
    let value = λ (tree : Content) (is : IsScriptIndexOf tree c.args.self.now). answers_listed tree c.args.self.now.scripts types _ _ parts found is.scripts c.in_ok-script_places.ensures c.as_slice.ensures c.script_place_search.ensures in
    record {
      some = λ tree is. answers_first tree types parts found (value tree is);
      none = λ tree is. answers_none tree types parts found (value tree is);
      value = value;
    }
