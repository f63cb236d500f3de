use Rattle.std.proofs.Common.{take}
use Rattle.htl_blocks.specs.Pieces.{pieces_parts}
use Rattle.publisher.specs.Waits.{IsLeastOf}
use Rattle.publisher.proofs.waiting.least_of.Given as goal

abbrev pub invariant-loop-piece : goal.invariant-loop-piece
invariant-loop-piece l = IsLeastOf l.least (pieces_parts l.list.scope (take l.piece-index l.piece-items))
