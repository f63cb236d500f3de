use Rattle.std.proofs.Common.{◌≡◌, take}
use Rattle.overlay_merge.proofs.merging.kids_copied.Given as goal

abbrev pub invariant-loop-kid : goal.invariant-loop-kid
invariant-loop-kid l = l.list ≡ take l.kid-index l.kids
