use Rattle.std.proofs.Common.{◌∙◌}
use Rattle.htl_expr.specs.Bindings.{with_vars}
use Rattle.htl_expr.specs.Variables.{vars_of}
use Rattle.htl_text.specs.Template.{piece_text}
use Rattle.htl_text.proofs.Pieces.{piece_too_long}
use Rattle.htl_text.proofs.template.Template.write.Goals as goal

pub returns-in-Err-clause-err : goal.returns-in-Err-clause-err
returns-in-Err-clause-err c =
    let s = with_vars c.args.of.now (vars_of c.args.vars.now) in
    let pieces = c.as_slice-piece-items.ensures ∙ c.self.view_is in
    let there = rw pieces at c.loop-piece-test.true in
    let item = rw pieces at c.piece-item.is in
    λ known. let x = rw c.loop-piece.invariant.0 at c.in-Err.ensures.err known in (x.0, piece_too_long (piece_text s) c.args.self.now c.loop-piece.piece-index c.piece-item.result _ _ _ there item c.loop-piece.invariant.1 x.1)
