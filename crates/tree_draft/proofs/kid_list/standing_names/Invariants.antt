use Rattle.std.proofs.Common.{◌≡◌, ◌++◌, List, ℕ, Bor, drop, map}
use Rattle.tree_draft.specs.Falls.{standing_names}
use Rattle.tree_draft.proofs.kid_list.standing_names.Given as goal

abbrev pub invariant-loop-place : goal.invariant-loop-place
invariant-loop-place l = map (λ (w : Bor (List ℕ)). w.now) l.lent.items ++ standing_names l.falls l.place (drop l.place l.names) ≡ standing_names l.falls 0 l.names
