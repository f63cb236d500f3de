use Rattle.std.proofs.Common.{◌≡◌, drop}
use Rattle.std.specs.List.{list_any}
use Rattle.overlay_merge.specs.Kids.{has_text}
use Rattle.overlay_merge.proofs.kids.is_kid_of_some.Given as goal

abbrev pub invariant-loop-layer : goal.invariant-loop-layer
invariant-loop-layer l = list_any (λ layer. has_text layer.kids l.name) (drop l.layer-index l.layers) ≡ list_any (λ layer. has_text layer.kids l.name) l.layers
