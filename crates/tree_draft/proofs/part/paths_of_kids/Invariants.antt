use Rattle.std.proofs.Common.{◌≡◌, take}
use Rattle.resource_tree.specs.Parts.{kids_below}
use Rattle.tree_draft.proofs.part.paths_of_kids.Given as goal

abbrev pub invariant-loop-path : goal.invariant-loop-path
invariant-loop-path l = l.paths.items ≡ kids_below l.draft.content (take l.path-index l.level)
