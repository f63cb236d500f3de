use Rattle.std.proofs.Common.{map}
use Rattle.std.specs.Map.Iter.{deref}
use Rattle.url_maps.proofs.SharedLemmas.{HaveParents}
use Rattle.url_maps.proofs.claims.Claims.shared_parents.Given as goal

abbrev pub invariant-loop-paths : goal.invariant-loop-paths
invariant-loop-paths l = HaveParents l.parents (map deref l.yielded)
