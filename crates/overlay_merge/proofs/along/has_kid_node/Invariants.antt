use Rattle.std.proofs.Common.{◌≡◌, drop}
use Rattle.overlay_merge.specs.Walk.{has_kid_node}
use Rattle.overlay_merge.proofs.along.has_kid_node.Given as goal

abbrev pub invariant-loop-layer : goal.invariant-loop-layer
invariant-loop-layer l = has_kid_node l.tree l.name (drop l.layer-index l.layers) ≡ has_kid_node l.tree l.name l.layers
