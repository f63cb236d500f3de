use Rattle.content_json.proofs.LawLemmas.{good_tree}
use Rattle.content_json.proofs.laws.content_is_a_tree.Goals as goal

pub returns : goal.returns
returns c = good_tree
