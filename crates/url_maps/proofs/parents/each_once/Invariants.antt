use Rattle.std.proofs.Common.{take}
use Rattle.url_maps.proofs.ParentLemmas.{AreOnce}
use Rattle.url_maps.proofs.parents.each_once.Given as goal

abbrev pub invariant-loop-path : goal.invariant-loop-path
invariant-loop-path l = AreOnce (take l.path-index l.paths) l.list l.known
