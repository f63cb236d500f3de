use Rattle.overlay_merge.proofs.SeenLemmas.{all_of_layers, seen_kid, seen_property}
use Rattle.overlay_merge.proofs.laws.what_is_seen_is_of_a_layer.Goals as goal

pub returns : goal.returns
returns c = record { property = seen_property; kid = seen_kid; merged = all_of_layers }
