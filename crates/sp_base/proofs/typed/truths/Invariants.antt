use Rattle.std.proofs.Common.{◌≡◌, map, take}
use Rattle.sp_base.specs.Typed.{truth_of}
use Rattle.sp_base.proofs.typed.truths.Given as goal

abbrev pub invariant-loop-word : goal.invariant-loop-word
invariant-loop-word l = l.list ≡ map truth_of (take l.word-index l.word-items)
