use Rattle.std.proofs.Common.{◌≡◌, ◌≤◌, length, take}
use Rattle.htl_expr.specs.Pieces.{piece_texts}
use Rattle.htl_expr.proofs.pieces.same_in_prefix.Given as goal

abbrev pub invariant-loop-place : goal.invariant-loop-place
invariant-loop-place l = (l.scope ≡ l.fn.scope) × (l.place ≤ length l.b) × (take l.place (piece_texts l.fn.scope l.a) ≡ take l.place (piece_texts l.fn.scope l.b))
