use Rattle.std.proofs.Common.{◌<◌, ℕ, Option, None, Some, length, arith, subst}
use Rattle.std.proofs.lemmas.List.{length-map}
use Rattle.htl_expr.specs.Cursors.{piece_behind, AreSameFor}
use Rattle.htl_expr.specs.Pieces.{item_piece_text, piece_texts}
use Rattle.htl_expr.proofs.Cursors.{same_for_pieces}
use Rattle.htl_expr.proofs.pieces.go_on.Goals as goal

pub returns-in_default-clause-same : goal.returns-in_default-clause-same
returns-in_default-clause-same c =
    let xs = piece_texts c.args.scope.now c.args.a.now in
    let ys = piece_texts c.args.scope.now c.args.b.now in
    let within : c.args.first.now.place < length xs = omega (arith, c.requires.within, length-map c.args.a.now (item_piece_text c.args.scope.now)) in
    let within_other : c.args.second.now.place < length ys = omega (arith, c.requires.within_other, length-map c.args.b.now (item_piece_text c.args.scope.now)) in
    same_for_pieces None xs ys c.args.first.now c.args.second.now within within_other c.requires.stands c.requires.stands_other
    (subst (λ (same : Option ℕ). AreSameFor same (piece_behind xs c.args.first.now) (piece_behind ys c.args.second.now)) c.in_default.is c.in_ok-more.ensures.same)

pub returns-clause-same : goal.returns-clause-same
returns-clause-same c =
    let xs = piece_texts c.args.scope.now c.args.a.now in
    let ys = piece_texts c.args.scope.now c.args.b.now in
    let within : c.args.first.now.place < length xs = omega (arith, c.requires.within, length-map c.args.a.now (item_piece_text c.args.scope.now)) in
    let within_other : c.args.second.now.place < length ys = omega (arith, c.requires.within_other, length-map c.args.b.now (item_piece_text c.args.scope.now)) in
    same_for_pieces (Some c.in-Some.more) xs ys c.args.first.now c.args.second.now within within_other c.requires.stands c.requires.stands_other
    (subst (λ (same : Option ℕ). AreSameFor same (piece_behind xs c.args.first.now) (piece_behind ys c.args.second.now)) c.in-Some.is c.in_ok-more.ensures.same)
