use Rattle.std.proofs.Common.{◌-◌, ℕ, List, string_bytes, length, ap}
use Rattle.std.proofs.lemmas.Result.{err_from_is_err_and}
use Rattle.htl_expr.proofs.EmptyJoin.{has_no_room}
use Rattle.htl_expr.proofs.empty_join.push_newly_joined.Goals as goal

pub returns-in_err-joined-clause-text : goal.returns-in_err-joined-clause-text
returns-in_err-joined-clause-text c =
    let p = err_from_is_err_and c.from_residual.result c.from_residual.ensures.1 in
    let left = ap (λ (t : List ℕ). c.args.writing.most - length t) c.as_str.ensures.value in
    rw (p.1, p.2) (has_no_room c.args.writing.most _ _ c.args.writing.context (string_bytes c.args.text.now) _ c.requires.room left c.in_err-joined.ensures.err)
