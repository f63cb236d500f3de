use Rattle.page_index.proofs.IndexLemmas.{beside_covered}
use Rattle.page_index.proofs.laws.a_flush_leaves_what_it_does_not_cover.Goals as goal

pub returns : goal.returns
returns c = beside_covered
