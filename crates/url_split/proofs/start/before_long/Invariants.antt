use Rattle.std.proofs.Common.{take}
use Rattle.url_split.proofs.LongLemmas.{EndsInPiece}
use Rattle.url_split.proofs.start.before_long.Given as goal

abbrev pub invariant-loop-at : goal.invariant-loop-at
invariant-loop-at l = EndsInPiece (take l.at l.bytes) l.piece
