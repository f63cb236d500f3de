use Rattle.std.proofs.Common.{[], codes, ◌++◌, get_or, sym}
use Rattle.htl_expr.specs.Lent.{out_of_lent, listed_texts}
use Rattle.htl_expr.specs.Pieces.{piece_texts, with_commas}
use Rattle.htl_expr.proofs.Items.{piece_count, pieces_there, same_by_other_text}
use Rattle.htl_expr.proofs.literals.has_same_item_at.Goals as goal

pub pieces_at-requires : goal.pieces_at-requires
pieces_at-requires c = piece_count c.args.scope.now c.args.b.now.property c.args.b.now.items (out_of_lent c.args.b.now.value) c.args.place c.in-None.is c.requires.second c.requires.within_other

pub returns-in-None-clause-same : goal.returns-in-None-clause-same
returns-in-None-clause-same c =
    let s = get_or (listed_texts (out_of_lent c.args.a.now.value)) c.args.place [] in
    let t = get_or (listed_texts (out_of_lent c.args.b.now.value)) c.args.place [] in
    let are = pieces_there c.args.scope.now c.args.b.now.property c.args.b.now.items (out_of_lent c.args.b.now.value) c.pieces_at.result.now c.args.place c.in-None.is c.requires.second c.requires.within_other c.pieces_at.ensures in
    same_by_other_text c.has_pieces_at-in-None.result (codes "," ++ s) (with_commas (piece_texts c.args.scope.now c.pieces_at.result.now)) (codes "," ++ t) (sym are) c.has_pieces_at-in-None.ensures.same
