use Rattle.std.proofs.Common.{◌≡◌, length, take}
use Rattle.htl_expr.specs.Pieces.{piece_texts, with_commas}
use Rattle.htl_expr.proofs.pieces.len_with_commas.Given as goal

abbrev pub invariant-loop-place : goal.invariant-loop-place
invariant-loop-place l = (l.scope ≡ l.fn.scope) × (l.len ≡ length (with_commas (take l.place (piece_texts l.fn.scope l.pieces))))
