use Rattle.std.proofs.Common.{◌≡◌, ℕ, List, take}
use Rattle.std.specs.Prelude.{fold}
use Rattle.overlay_merge.specs.Kids.{ordered_by}
use Rattle.overlay_merge.specs.Slots.{names_after_moves}
use Rattle.overlay_merge.proofs.order.moves_of.Given as goal

abbrev pub invariant-loop-layer : goal.invariant-loop-layer
invariant-loop-layer l = (names : List (List ℕ)) → names_after_moves l.moves.items names ≡ fold (ordered_by l.tree) names (take l.layer-index l.layers)
