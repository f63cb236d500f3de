use Rattle.page_index.proofs.IndexLemmas.{beside_number}
use Rattle.page_index.proofs.laws.an_opening_leaves_notes.Goals as goal

pub returns : goal.returns
returns c = beside_number
