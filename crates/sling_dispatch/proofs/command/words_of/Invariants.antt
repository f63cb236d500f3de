use Rattle.std.proofs.Common.{◌≡◌, IfSome, take}
use Rattle.sling_dispatch.proofs.command.words_of.Given as goal

abbrev pub invariant-loop-place : goal.invariant-loop-place
invariant-loop-place g l = IfSome (g.W.Words.told l.line) (λ all. l.words ≡ take l.place all)
