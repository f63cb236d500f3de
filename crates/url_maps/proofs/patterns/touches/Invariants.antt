use Rattle.std.proofs.Common.{◌≡◌, false, take}
use Rattle.url_maps.specs.PatternRows.{touches}
use Rattle.url_maps.proofs.patterns.touches.Given as goal

abbrev pub invariant-loop-place : goal.invariant-loop-place
invariant-loop-place l = touches (take l.place l.patch) l.parent ≡ false
