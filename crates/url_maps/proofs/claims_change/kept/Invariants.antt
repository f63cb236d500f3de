use Rattle.std.proofs.Common.{◌≡◌, take}
use Rattle.url_maps.specs.Noting.{untouched_paths}
use Rattle.url_maps.proofs.claims_change.kept.Given as goal

abbrev pub invariant-loop-path : goal.invariant-loop-path
invariant-loop-path l = l.list ≡ untouched_paths l.patch (take l.path-index l.paths)
