use Rattle.std.proofs.Common.{ℕ, Option, IfSome, sym, subst, ◌∙◌}
use Rattle.htl_expr.specs.Cursors.{left_behind, MovesOn, AreSameFor}
use Rattle.htl_expr.specs.Pieces.{piece_texts}
use Rattle.htl_expr.proofs.Cursors.{compared_further, left_differs}
use Rattle.htl_expr.proofs.pieces.have_same_bytes.Goals as goal

pub returns-in_default-clause-same : goal.returns-in_default-clause-same
returns-in_default-clause-same c =
    let known = c.loop-left.invariant in
    let one = left_behind (piece_texts c.args.scope.now c.args.a.now) c.loop-left.first in
    let other = left_behind (piece_texts c.args.scope.now c.args.b.now) c.loop-left.second in
    sym (left_differs one other (subst (λ (same : Option ℕ). AreSameFor same one other) c.in_default.is (rw known.0 at c.in_ok-more.ensures.same))) ∙ known.1.same

pub loop-left-preserved : goal.loop-left-preserved
loop-left-preserved c =
    let known = c.loop-left.invariant in
    let xs = piece_texts c.args.scope.now c.args.a.now in
    let ys = piece_texts c.args.scope.now c.args.b.now in
    let same = subst (λ (o : Option ℕ). AreSameFor o (left_behind xs c.loop-left.first) (left_behind ys c.loop-left.second)) c.in-Some.is (rw known.0 at c.in_ok-more.ensures.same) in
    let on = subst (λ (o : Option ℕ). IfSome o (λ more. MovesOn xs c.loop-left.first more c.go_on.new.first)) c.in-Some.is (rw known.0 at c.in_ok-more.ensures.first) in
    let other_on = subst (λ (o : Option ℕ). IfSome o (λ more. MovesOn ys c.loop-left.second more c.go_on.new.second)) c.in-Some.is (rw known.0 at c.in_ok-more.ensures.second) in
    (c.in_ok-more.ensures.scope ∙ known.0, compared_further xs ys c.loop-left.first c.loop-left.second c.go_on.new.first c.go_on.new.second c.loop-left.left c.in-Some.more known.1 same on other_on)
