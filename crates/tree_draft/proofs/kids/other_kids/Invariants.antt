use Rattle.std.proofs.Common.{◌≡◌, List, ℕ, Bor, take, map}
use Rattle.resource_tree.specs.Kids.{other_kids}
use Rattle.tree_draft.proofs.kids.other_kids.Given as goal

abbrev pub invariant-loop-kid : goal.invariant-loop-kid
invariant-loop-kid l = map (λ (w : Bor (List ℕ)). w.now) l.others.items ≡ other_kids l.name (map (λ (w : Bor (List ℕ)). w.now) (take l.kid-index l.kids))
