use Rattle.htl_expr.specs.Remembered.{compared_by}
use Rattle.htl_expr.proofs.Remembered.{same_numbers}
use Rattle.htl_expr.proofs.numbered.has_one_number.Goals as goal

pub returns-clause-same : goal.returns-clause-same
returns-clause-same c =
    let first = compared_by c.args.scope.now c.args.aspect c.args.a.now in
    let second = compared_by c.args.scope.now c.args.aspect c.args.b.now in
    let kept = c.in_ok-second.ensures.kept first c.in_ok-first.first c.in_ok-first.ensures.number in
    same_numbers c.number-2.new.numbering.classes first second c.in_ok-first.first c.in_ok-second.second c.told_apart.ensures kept c.in_ok-second.ensures.number
