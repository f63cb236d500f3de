use Rattle.std.proofs.Common.{◌≡◌, ◌++◌, drop, map}
use Rattle.post_plan.specs.Entries.{words_at}
use Rattle.post_plan.proofs.sets.words_at.Given as goal

abbrev pub invariant-loop-entry : goal.invariant-loop-entry
invariant-loop-entry l = l.words ++ words_at l.spot l.suffix (map (λ e. e.now) (drop l.entry-index l.entry-items)) ≡ words_at l.spot l.suffix l.entries
