use Rattle.overlay_merge.proofs.LawLemmas.{cut_is}
use Rattle.overlay_merge.proofs.laws.a_cut_layer_is_left_out.Goals as goal

pub returns : goal.returns
returns c = cut_is
