use Rattle.page_index.proofs.IndexLemmas.{beside_page}
use Rattle.page_index.proofs.laws.a_changed_page_leaves_other_notes.Goals as goal

pub returns : goal.returns
returns c = beside_page
