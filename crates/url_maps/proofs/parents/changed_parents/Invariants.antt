use Rattle.url_maps.proofs.ParentLemmas.{AreSettled}
use Rattle.url_maps.proofs.parents.changed_parents.Given as goal

abbrev pub invariant-loop-place : goal.invariant-loop-place
invariant-loop-place l = AreSettled l.tree l.patch l.place l.parents
