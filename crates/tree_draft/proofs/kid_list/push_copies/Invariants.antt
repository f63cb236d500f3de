use Rattle.std.proofs.Common.{◌≡◌, ◌++◌, List, ℕ, Bor, drop, map}
use Rattle.tree_draft.proofs.kid_list.push_copies.Given as goal

abbrev pub invariant-loop-name : goal.invariant-loop-name
invariant-loop-name l = l.list ++ map (λ (w : Bor (List ℕ)). w.now) (drop l.name-index l.names) ≡ l.fn.list ++ map (λ (w : Bor (List ℕ)). w.now) l.names
