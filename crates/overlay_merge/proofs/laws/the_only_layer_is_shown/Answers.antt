use Rattle.overlay_merge.proofs.KidsSeen.{only_node}
use Rattle.overlay_merge.proofs.SeenLemmas.{only_kids, only_layer}
use Rattle.overlay_merge.proofs.ThereLemmas.{nothing_cut}
use Rattle.overlay_merge.proofs.laws.the_only_layer_is_shown.Goals as goal

pub returns : goal.returns
returns c = record {
  node = only_layer;
  kids = only_kids;
  order = λ tree path lower upper layer res good. only_node tree path lower upper layer res good.shape;
  hidden = nothing_cut;
}
