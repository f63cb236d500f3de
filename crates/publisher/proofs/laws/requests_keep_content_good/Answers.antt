use Rattle.publisher.proofs.GoodLemmas.{requests_keep}
use Rattle.publisher.proofs.laws.requests_keep_content_good.Goals as goal

pub returns : goal.returns
returns c = requests_keep c.a_path_and_its_text.ensures.valid c.the_split_is_the_longest.ensures.some c.operations_name_paths.ensures c.operations_keep_content_good.ensures
