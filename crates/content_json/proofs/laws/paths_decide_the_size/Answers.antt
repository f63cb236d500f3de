use Rattle.content_json.proofs.LawLemmas.{size_by_paths}
use Rattle.content_json.proofs.laws.paths_decide_the_size.Goals as goal

pub returns : goal.returns
returns c = size_by_paths
