use Rattle.std.proofs.Common.{◌≡◌, map}
use Rattle.overlay_merge.specs.Walk.{screened_layer}
use Rattle.overlay_merge.proofs.merged_resources.screened_layers.Given as goal

abbrev pub invariant-loop-layer : goal.invariant-loop-layer
invariant-loop-layer l = l.list.items ≡ map (screened_layer l.tree) l.yielded
