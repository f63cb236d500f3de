use Rattle.overlay_merge.proofs.LawLemmas.{unmerged_is}
use Rattle.overlay_merge.proofs.laws.elsewhere_the_node_is_seen.Goals as goal

pub returns : goal.returns
returns c = unmerged_is
