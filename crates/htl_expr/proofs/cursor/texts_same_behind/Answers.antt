use Rattle.htl_expr.proofs.Cursors.{same_for_fronts}
use Rattle.htl_expr.specs.Cursors.{piece_left}
use Rattle.htl_expr.proofs.cursor.texts_same_behind.Goals as goal

pub returns : goal.returns
returns c =
    same_for_fronts c.same_for.result (piece_left c.args.text.now c.args.bytes) (piece_left c.args.other.now c.args.other_bytes) c.part_behind.result.now c.part_behind-2.result.now c.part_behind.ensures.front c.part_behind-2.ensures.front
    c.same_for.ensures
