use Rattle.std.proofs.Common.{◌≡◌, ◌++◌, List, ℕ, Bor, drop, map}
use Rattle.post_plan.proofs.word_list.LentWords.copied.Given as goal

abbrev pub invariant-loop-word : goal.invariant-loop-word
invariant-loop-word l = l.copy ++ map (λ (w : Bor (List ℕ)). w.now) (drop l.word-index l.word-items) ≡ map (λ (w : Bor (List ℕ)). w.now) l.word-items
