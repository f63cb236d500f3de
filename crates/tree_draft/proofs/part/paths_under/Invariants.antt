use Rattle.std.proofs.Common.{◌≡◌, ◌++◌, ◌-◌, ◌∷◌, []}
use Rattle.resource_tree.specs.Parts.{levels}
use Rattle.tree_draft.proofs.part.paths_under.Given as goal

abbrev pub invariant-loop : goal.invariant-loop
invariant-loop l = l.paths.items ++ levels l.draft.content (65 - l.counter) l.level.items ≡ levels l.draft.content 65 (l.path ∷ [])
