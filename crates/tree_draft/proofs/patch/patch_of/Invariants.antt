use Rattle.std.proofs.Common.{◌≡◌}
use Rattle.std.specs.List.{IsDistinct}
use Rattle.std.specs.Map.{keys_of}
use Rattle.std.specs.Ordering.{eq_by_cmp}
use Rattle.resource_tree.specs.Content.{by_path}
use Rattle.resource_tree.specs.Patches.{patching}
use Rattle.tree_draft.proofs.patch.patch_of.Given as goal

-- the entries that are left make of the tree with the patch over it what all make of the tree
abbrev pub invariant-loop-path : goal.invariant-loop-path
invariant-loop-path l = (patching (patching l.tree l.patch) l.path-iterator ≡ patching l.tree l.fn.entries.entries) × IsDistinct (eq_by_cmp by_path) (keys_of l.patch)
