use Rattle.std.proofs.Common.{◌≡◌, ◌∷◌, take}
use Rattle.url_maps.specs.Noting.{others}
use Rattle.url_maps.proofs.leaders.led_by.Given as goal

abbrev pub invariant-loop-path : goal.invariant-loop-path
invariant-loop-path l = l.list ≡ l.first ∷ others l.first (take l.path-index l.paths)
