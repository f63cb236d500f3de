use Rattle.std.proofs.Common.{arith, refl, string_bytes}
use Rattle.htl_expr.proofs.EscapeLemmas.{escaped_longer}
use Rattle.htl_expr.proofs.Writing.{begins_same, no_room}
use Rattle.htl_expr.proofs.escape.push_escaped.Goals as goal

pub returns-then-plain-most : goal.returns-then-plain-most
returns-then-plain-most c =
    let lt = rw c.as_str.ensures.value at c.if-plain-most.true in
    let more = escaped_longer c.args.plain.now in
    (begins_same _, λ _. (refl, no_room c.args.most (string_bytes c.args.text.now) _ c.requires (omega (arith, lt, more))))
