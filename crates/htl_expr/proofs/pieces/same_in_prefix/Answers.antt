use Rattle.std.proofs.Common.{◌<◌, length, arith, sym, ◌∙◌}
use Rattle.std.proofs.lemmas.List.{length-map}
use Rattle.htl_expr.specs.Pieces.{item_piece_text, piece_texts}
use Rattle.htl_expr.proofs.PieceLemmas.{agree_more}
use Rattle.htl_expr.proofs.pieces.same_in_prefix.Goals as goal

pub loop-place-preserved : goal.loop-place-preserved
loop-place-preserved c =
    let known = c.loop-place.invariant in
    let more : c.loop-place.place < length c.args.b.now = omega (arith, known.1, c.if-place-b.false) in
    let within : c.loop-place.place < length (piece_texts c.args.scope.now c.args.a.now) = omega (arith, c.loop-place-test.true, length-map c.args.a.now (item_piece_text c.args.scope.now)) in
    let within_other : c.loop-place.place < length (piece_texts c.args.scope.now c.args.b.now) = omega (arith, more, length-map c.args.b.now (item_piece_text c.args.scope.now)) in (
      c.in_ok-is_same_piece_at.ensures.scope ∙ known.0,
      omega (arith, more),
      agree_more (piece_texts c.args.scope.now c.args.a.now) (piece_texts c.args.scope.now c.args.b.now) c.loop-place.place within within_other (sym (rw known.0 at c.in_ok-is_same_piece_at.ensures.same) ∙ c.if-not-branch.false) known.2,
    )
