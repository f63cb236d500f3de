use Rattle.std.proofs.Common.{◌≡◌, ◌==◌, map, filter, not, length, take}
use Rattle.url_split.proofs.decompose.full_pieces.Given as goal

abbrev pub invariant-loop-piece : goal.invariant-loop-piece
invariant-loop-piece l = l.full ≡ filter (λ piece. not (length piece == 0)) (map (λ piece. piece.now) (take l.piece-index l.pieces))
