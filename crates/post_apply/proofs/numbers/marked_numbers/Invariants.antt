use Rattle.std.proofs.Common.{Bor, List, ℕ, map}
use Rattle.post_apply.specs.Marks.{MarksListed}
use Rattle.post_apply.proofs.numbers.marked_numbers.Given as goal

abbrev pub invariant-loop-kid : goal.invariant-loop-kid
invariant-loop-kid l = MarksListed (map (λ (w : Bor (List ℕ)). w.now) l.kids) l.name l.marks.items
