use Rattle.std.proofs.Common.{take}
use Rattle.resource_tree.specs.Patches.{patching_at}
use Rattle.url_maps.specs.PatternRows.{AreRowsOfNames}
use Rattle.url_maps.proofs.patterns.patterns_of.Given as goal

abbrev pub invariant-loop-name : goal.invariant-loop-name
invariant-loop-name l = AreRowsOfNames (patching_at l.tree l.patch) (take l.name-index l.names) l.patterns
