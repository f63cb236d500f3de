use Rattle.std.proofs.Common.{◌≡◌, ◌++◌, Bor, List, ℕ, take, map}
use Rattle.resource_tree.specs.Content.{kid}
use Rattle.tree_draft.proofs.part.push_kids.Given as goal

abbrev pub invariant-loop-name : goal.invariant-loop-name
invariant-loop-name l = l.paths.items ≡ l.fn.paths.items ++ map (kid l.path) (map (λ (w : Bor (List ℕ)). w.now) (take l.name-index l.name-items))
