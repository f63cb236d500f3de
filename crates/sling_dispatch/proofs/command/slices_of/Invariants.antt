use Rattle.std.proofs.Common.{◌≡◌, map, take}
use Rattle.sling_dispatch.proofs.command.slices_of.Given as goal

abbrev pub invariant-loop-word : goal.invariant-loop-word
invariant-loop-word l = map (λ w. w.now) l.slices.items ≡ take l.word-index l.words
