use Rattle.std.proofs.Common.{take}
use Rattle.resource_tree.specs.Patches.{patching_at}
use Rattle.url_maps.specs.Siblings.{PutsFamilies, names_first}
use Rattle.url_maps.proofs.siblings.put_families.Given as goal

abbrev pub invariant-loop-parent : goal.invariant-loop-parent
invariant-loop-parent l = PutsFamilies (patching_at l.tree l.patch) (names_first l.naming) (take l.parent-index l.parents) l.fn.change l.change
