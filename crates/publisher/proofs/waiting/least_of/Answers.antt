use Rattle.std.proofs.Common.{subst}
use Rattle.htl_blocks.specs.Pieces.{piece_parts}
use Rattle.publisher.specs.Waits.{IsLeastOf}
use Rattle.publisher.proofs.PageSteps.{least_done, least_more}
use Rattle.publisher.proofs.waiting.least_of.Goals as goal

pub loop-piece-preserved : goal.loop-piece-preserved
loop-piece-preserved c =
    least_more (piece_parts c.args.list.now.scope) c.pieces-piece-items.result.now c.loop-piece.piece-index c.piece-item.result c.piece-item.result c.loop-piece.least c.size_of_piece.result c.beside-least.result c.loop-piece-test.true c.piece-item.is
    (c.size_of_piece.ensures c.args.list.now.scope) c.beside-least.ensures.text c.beside-least.ensures.inclusions c.loop-piece.invariant

pub returns : goal.returns
returns c =
    subst (IsLeastOf c.loop-piece.least) c.pieces-piece-items.ensures
    (least_done (piece_parts c.args.list.now.scope) c.pieces-piece-items.result.now c.loop-piece.piece-index c.loop-piece.least c.loop-piece-test.false c.loop-piece.invariant)
