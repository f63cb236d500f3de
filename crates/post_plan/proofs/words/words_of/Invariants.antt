use Rattle.std.proofs.Common.{◌≡◌, ◌++◌, drop}
use Rattle.post_plan.specs.Parameters.{words_of}
use Rattle.post_plan.proofs.words.words_of.Given as goal

abbrev pub invariant-loop-named : goal.invariant-loop-named
invariant-loop-named l = l.words ++ words_of l.name (drop l.named-index l.pairs) ≡ words_of l.name l.pairs
