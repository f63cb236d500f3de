use Rattle.std.proofs.Common.{◌≡◌, take, map}
use Rattle.htl_expr.specs.Print.{truth_text}
use Rattle.htl_expr.proofs.out.truth_texts.Given as goal

abbrev pub invariant-loop-truth : goal.invariant-loop-truth
invariant-loop-truth l = l.texts ≡ map truth_text (take l.truth-index l.truths)
