use Rattle.std.proofs.Common.{◌≡◌, ◌++◌, List, ℕ, Bor, drop, map, true}
use Rattle.post_plan.specs.Entries.{without_blanks}
use Rattle.post_plan.proofs.sets.full_words.Given as goal

abbrev pub invariant-loop-word : goal.invariant-loop-word
invariant-loop-word l =
    l.full ++ without_blanks true (map (λ (w : Bor (List ℕ)). w.now) (drop l.word-index l.word-items)) ≡ without_blanks true (map (λ (w : Bor (List ℕ)). w.now) l.word-items)
