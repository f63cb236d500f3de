use Rattle.overlay_merge.proofs.LawLemmas.{kids-reorder}
use Rattle.overlay_merge.proofs.laws.wishes_only_reorder.Goals as goal

pub returns : goal.returns
returns c = kids-reorder
