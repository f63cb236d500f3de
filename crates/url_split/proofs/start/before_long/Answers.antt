use Rattle.std.proofs.Common.{◌+◌, sym, subst, take}
use Rattle.url_split.proofs.LongLemmas.{EndsInPiece, ends_more, ends_new}
use Rattle.url_split.proofs.start.before_long.Goals as goal
use Rattle.url_split.proofs.start.before_long.Goals.{then-bytes-at-eq47, else-bytes-at-eq47}

pub loop-at-preserved : goal.loop-at-preserved
loop-at-preserved c =
    let bytes = c.as_bytes-bytes.result.now in
    let at = c.loop-at.at in
    elim c.if-bytes-at-eq47.branch [
      | then-bytes-at-eq47 w ↦ subst (EndsInPiece (take (at + 1) bytes)) (sym w.piece-is) (ends_new (take (at + 1) bytes))
      | else-bytes-at-eq47 w ↦ subst (EndsInPiece (take (at + 1) bytes)) (sym w.piece-is) (ends_more bytes at c.loop-at.piece c.loop-at-test.true w.if-bytes-at-eq47.false c.loop-at.invariant)
    ]
