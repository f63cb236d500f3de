use Rattle.std.proofs.Common.{◌≡◌, drop}
use Rattle.overlay_merge.specs.Walk.{some_screens}
use Rattle.overlay_merge.proofs.merged_resources.some_screens.Given as goal

abbrev pub invariant-loop-upper : goal.invariant-loop-upper
invariant-loop-upper l = some_screens l.n (drop l.upper-index l.above) ≡ some_screens l.fn.common l.above
