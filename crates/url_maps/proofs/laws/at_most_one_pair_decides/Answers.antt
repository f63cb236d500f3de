use Rattle.url_maps.proofs.LawLemmas.{one_decides}
use Rattle.url_maps.proofs.laws.at_most_one_pair_decides.Goals as goal

pub returns : goal.returns
returns c = λ tree asked text at k pair other good d e. one_decides c.a_path_and_its_text.ensures.read tree good.shape asked text at k pair other d e
