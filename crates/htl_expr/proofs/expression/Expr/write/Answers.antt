use Rattle.std.proofs.Common.{◌≤◌, length, take, string_bytes, IsUtf8, sym, ap, subst, ◌∙◌, refl, arith}
use Rattle.std.proofs.lemmas.List.{take_at, length-append}
use Rattle.std.proofs.lemmas.Str.{IsCharBoundary-from_take}
use Rattle.std.proofs.str.Laws.{IsUtf8-had}
use Rattle.htl_expr.proofs.expression.Expr.write.Goals as goal

pub truncate-requires : goal.truncate-requires
truncate-requires c =
    let old = string_bytes c.args.text.now in
    let new = string_bytes c.push_in.new.text in
    let begins = c.in-Err.ensures.text.0 in
    let leading = ap (take (length old)) begins.parts ∙ take_at old begins.rest (length old) refl in
    let within : length old ≤ length new = omega (arith, ap length begins.parts, length-append old begins.rest) in
    let boundary = IsCharBoundary-from_take new (length old) (IsUtf8-had _ c.push_in.new.text.ok) within (subst IsUtf8 (sym leading) (IsUtf8-had _ c.args.text.now.ok)) in
    rw c.as_str-len.ensures.value (λ _. (boundary.0, λ _. boundary.1))
