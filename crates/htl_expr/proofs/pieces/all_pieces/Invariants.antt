use Rattle.std.proofs.Common.{◌≡◌, List, flat_map, take}
use Rattle.htl_expr.specs.declared.pieces.ItemPiece.{ItemPiece}
use Rattle.htl_expr.proofs.pieces.all_pieces.Given as goal

abbrev pub invariant-loop-pieces : goal.invariant-loop-pieces
invariant-loop-pieces l = l.all ≡ flat_map (λ (ps : List ItemPiece). ps) (take l.pieces-index l.items)
