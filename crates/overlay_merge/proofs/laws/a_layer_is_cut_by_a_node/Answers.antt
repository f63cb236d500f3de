use Rattle.overlay_merge.proofs.CutLemmas.{cut_by_node, cut_from_node}
use Rattle.overlay_merge.proofs.laws.a_layer_is_cut_by_a_node.Goals as goal

pub returns : goal.returns
returns c = record { cut = cut_by_node; only = cut_from_node }
