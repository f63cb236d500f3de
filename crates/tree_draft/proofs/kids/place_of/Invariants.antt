use Rattle.std.proofs.Common.{◌≡◌, ◌+◌, List, ℕ, Bor, drop, map, nat_eq}
use Rattle.std.specs.List.{position_or_len}
use Rattle.std.specs.Cmp.Lexicographic.{pointwise}
use Rattle.tree_draft.proofs.kids.place_of.Given as goal

abbrev pub invariant-loop-place : goal.invariant-loop-place
invariant-loop-place l =
    l.place + position_or_len (pointwise nat_eq l.sibling) (drop l.place (map (λ (w : Bor (List ℕ)). w.now) l.others)) ≡ position_or_len (pointwise nat_eq l.sibling) (map (λ (w : Bor (List ℕ)). w.now) l.others)
