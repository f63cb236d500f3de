use Rattle.std.proofs.Common.{◌≡◌, nat_eq, length, drop}
use Rattle.std.specs.Cmp.Lexicographic.{pointwise}
use Rattle.htl_expr.specs.Lent.{out_of_lent, listed_texts}
use Rattle.htl_expr.proofs.literals.has_same_texts.Given as goal

abbrev pub invariant-loop-place : goal.invariant-loop-place
invariant-loop-place l =
    (l.scope ≡ l.fn.scope) × (l.items ≡ length (listed_texts (out_of_lent l.a.value))) × (l.items ≡ length (listed_texts (out_of_lent l.b.value)))
    × (pointwise (pointwise nat_eq) (drop l.place (listed_texts (out_of_lent l.a.value))) (drop l.place (listed_texts (out_of_lent l.b.value))) ≡ pointwise (pointwise nat_eq) (listed_texts (out_of_lent l.a.value)) (listed_texts (out_of_lent l.b.value)))
