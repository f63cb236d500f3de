use Rattle.std.proofs.Common.{◌≡◌}
use Rattle.htl_expr.specs.Cursors.{AreComparedUpTo}
use Rattle.htl_expr.specs.Pieces.{piece_texts}
use Rattle.htl_expr.proofs.pieces.have_same_bytes.Given as goal

abbrev pub decreases-loop-left : goal.decreases-loop-left
decreases-loop-left l = l.left

abbrev pub invariant-loop-left : goal.invariant-loop-left
invariant-loop-left l = (l.scope ≡ l.fn.scope) × AreComparedUpTo (piece_texts l.fn.scope l.a) (piece_texts l.fn.scope l.b) l.first l.second l.left
