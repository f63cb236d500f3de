use Rattle.std.proofs.Common.{◌-◌, [], Some, length}
use Rattle.overlay_merge.specs.Layers.{descent, override_layer}
use Rattle.overlay_merge.proofs.LayerLemmas.{Descends}
use Rattle.overlay_merge.proofs.layers.descent.Given as goal

abbrev pub invariant-loop-next : goal.invariant-loop-next
invariant-loop-next l = Descends l.tree (descent l.tree 32 [] (Some (override_layer 0 l.fn.path))) l.layers.items l.next

abbrev pub decreases-loop-next : goal.decreases-loop-next
decreases-loop-next l = 32 - length l.layers.items
