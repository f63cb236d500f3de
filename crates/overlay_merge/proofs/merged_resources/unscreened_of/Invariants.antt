use Rattle.std.proofs.Common.{◌≡◌, ◌++◌, drop}
use Rattle.overlay_merge.specs.Walk.{unscreened_resources}
use Rattle.overlay_merge.proofs.merged_resources.unscreened_of.Given as goal

abbrev pub invariant-loop-k : goal.invariant-loop-k
invariant-loop-k l = l.list.items ++ unscreened_resources l.tree (drop l.k l.layers) ≡ unscreened_resources l.tree l.layers
