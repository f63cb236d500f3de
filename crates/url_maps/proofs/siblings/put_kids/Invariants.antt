use Rattle.std.proofs.Common.{take}
use Rattle.resource_tree.specs.Patches.{patching_at}
use Rattle.url_maps.specs.Siblings.{names_first}
use Rattle.url_maps.proofs.SiblingLemmas.{PutsSome}
use Rattle.url_maps.proofs.siblings.put_kids.Given as goal

abbrev pub invariant-loop-name : goal.invariant-loop-name
invariant-loop-name l = PutsSome (patching_at l.tree l.patch) (names_first l.fn.naming) l.parent (take l.name-index l.kids) l.fn.change l.change
