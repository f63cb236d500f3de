use Rattle.std.proofs.Common.{List, arith, ap, flat_map, ◌∙◌}
use Rattle.std.proofs.lemmas.List.{take_all}
use Rattle.htl_expr.specs.declared.pieces.ItemPiece.{ItemPiece}
use Rattle.htl_expr.proofs.pieces.all_pieces.Goals as goal

pub returns : goal.returns
returns c = c.loop-pieces.invariant ∙ ap (λ (items : List (List ItemPiece)). flat_map (λ (ps : List ItemPiece). ps) items) (take_all c.loop-pieces.pieces-index c.args.items.now (omega (arith, c.loop-pieces-test.false)))
