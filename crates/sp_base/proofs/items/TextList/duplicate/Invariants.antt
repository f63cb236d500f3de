use Rattle.std.proofs.Common.{◌≡◌, take}
use Rattle.sp_base.proofs.items.TextList.duplicate.Given as goal

abbrev pub invariant-loop-text : goal.invariant-loop-text
invariant-loop-text l = l.copy ≡ take l.text-index l.self
