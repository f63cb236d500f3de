use Rattle.std.proofs.Common.{◌≡◌, take}
use Rattle.overlay_merge.specs.Kids.{all_kids}
use Rattle.overlay_merge.proofs.kids.all_kids.Given as goal

abbrev pub invariant-loop-k : goal.invariant-loop-k
invariant-loop-k l = l.names.items ≡ all_kids (take l.k l.layers)
