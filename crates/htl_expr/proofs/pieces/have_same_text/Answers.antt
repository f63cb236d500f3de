use Rattle.std.proofs.Common.{◌<◌, ◌≤◌, length, arith}
use Rattle.std.proofs.lemmas.List.{length-map}
use Rattle.htl_expr.specs.Pieces.{item_piece_text, piece_texts}
use Rattle.htl_expr.proofs.PieceLemmas.{told_the_same, told_at_place}
use Rattle.htl_expr.proofs.pieces.have_same_text.Goals as goal

pub returns-then-place-b-clause-same : goal.returns-then-place-b-clause-same
returns-then-place-b-clause-same c =
    let xs = piece_texts c.args.scope.now c.args.a.now in
    let ys = piece_texts c.args.scope.now c.args.b.now in
    let end : length xs ≤ c.in_ok-place.place = omega (arith, c.if-place-a.true, length-map c.args.a.now (item_piece_text c.args.scope.now)) in
    let other_end : length ys ≤ c.in_ok-place.place = omega (arith, c.if-place-b.true, length-map c.args.b.now (item_piece_text c.args.scope.now)) in
    told_the_same xs ys c.in_ok-place.place end other_end c.in_ok-place.ensures.agree

pub returns-then-branch-clause-same : goal.returns-then-branch-clause-same
returns-then-branch-clause-same c =
    let xs = piece_texts c.args.scope.now c.args.a.now in
    let ys = piece_texts c.args.scope.now c.args.b.now in
    let long = (rw c.in_ok-place.ensures.scope at c.in_ok-is_as_long_at.ensures.long) c.if-branch.true in
    let within : c.in_ok-place.place < length xs = omega (arith, long.0, length-map c.args.a.now (item_piece_text c.args.scope.now)) in
    let within_other : c.in_ok-place.place < length ys = omega (arith, long.1, length-map c.args.b.now (item_piece_text c.args.scope.now)) in
    told_at_place xs ys c.in_ok-place.place within within_other c.in_ok-place.ensures.agree c.in_ok-place.ensures.differs long.2
