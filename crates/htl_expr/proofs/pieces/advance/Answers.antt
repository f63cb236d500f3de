use Rattle.std.proofs.Common.{◌≡◌, ◌<◌, ◌+◌, ◌++◌, [], codes, get_or, length, arith, refl}
use Rattle.std.proofs.lemmas.List.{length-drop, length-map}
use Rattle.htl_expr.specs.Pieces.{item_piece_text, piece_texts}
use Rattle.htl_expr.proofs.Cursors.{behind_piece}
use Rattle.htl_expr.proofs.pieces.advance.Goals as goal

pub returns-then-more-len-clause-on : goal.returns-then-more-len-clause-on
returns-then-more-len-clause-on c =
    let texts = piece_texts c.args.scope.now c.args.pieces.now in
    let old = c.args.cursor.now in
    let text = get_or texts old.place [] in
    let within : old.place < length texts = omega (arith, c.requires.within, length-map c.args.pieces.now (item_piece_text c.args.scope.now)) in
    let end : old.bytes + c.args.more ≡ length text + 1 = omega (arith, c.requires.stands, c.requires.more, length-drop old.bytes (codes "," ++ text), c.in_ok-len.ensures.len, c.if-more-len.true) in
    behind_piece texts old (record { place = old.place + 1; bytes = 0 }) c.args.more within c.requires.stands end refl refl
