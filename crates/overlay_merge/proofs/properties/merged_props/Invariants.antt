use Rattle.std.proofs.Common.{◌≡◌, [], take}
use Rattle.std.specs.Prelude.{fold}
use Rattle.overlay_merge.specs.Properties.{with_layer}
use Rattle.overlay_merge.proofs.properties.merged_props.Given as goal

abbrev pub invariant-loop-layer : goal.invariant-loop-layer
invariant-loop-layer l = l.props ≡ fold with_layer [] (take l.layer-index l.layers)
