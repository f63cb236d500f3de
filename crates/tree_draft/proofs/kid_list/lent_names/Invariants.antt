use Rattle.std.proofs.Common.{◌≡◌, List, ℕ, Bor, take, map}
use Rattle.tree_draft.proofs.kid_list.lent_names.Given as goal

abbrev pub invariant-loop-name : goal.invariant-loop-name
invariant-loop-name l = map (λ (w : Bor (List ℕ)). w.now) l.lent.items ≡ take l.name-index l.names
