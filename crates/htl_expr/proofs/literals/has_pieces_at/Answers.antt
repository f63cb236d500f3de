use Rattle.std.proofs.Common.{[], codes, ◌++◌, get_or, sym}
use Rattle.htl_expr.specs.Lent.{out_of_lent, listed_texts}
use Rattle.htl_expr.specs.Pieces.{piece_texts, with_commas}
use Rattle.htl_expr.proofs.Items.{piece_count, pieces_there, same_by_text}
use Rattle.htl_expr.proofs.literals.has_pieces_at.Goals as goal

pub pieces_at-requires : goal.pieces_at-requires
pieces_at-requires c = piece_count c.args.scope.now c.args.list.now.property c.args.list.now.items (out_of_lent c.args.list.now.value) c.args.place c.in-None.is c.requires.list c.requires.within

pub returns-in-None-clause-same : goal.returns-in-None-clause-same
returns-in-None-clause-same c =
    let t = get_or (listed_texts (out_of_lent c.args.list.now.value)) c.args.place [] in
    let are = pieces_there c.args.scope.now c.args.list.now.property c.args.list.now.items (out_of_lent c.args.list.now.value) c.pieces_at.result.now c.args.place c.in-None.is c.requires.list c.requires.within c.pieces_at.ensures in
    same_by_text c.have_same_text-in-None.result (with_commas (piece_texts c.args.scope.now c.args.pieces.now)) (with_commas (piece_texts c.args.scope.now c.pieces_at.result.now)) (codes "," ++ t) (sym are) c.have_same_text-in-None.ensures.same
