use Rattle.page_index.proofs.IndexLemmas.{beside_stamp}
use Rattle.page_index.proofs.laws.a_touch_leaves_other_notes.Goals as goal

pub returns : goal.returns
returns c = beside_stamp
