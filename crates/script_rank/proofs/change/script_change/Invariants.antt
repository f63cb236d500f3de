use Rattle.std.proofs.Common.{take}
use Rattle.script_rank.proofs.TextLemmas.{AreNoted}
use Rattle.script_rank.proofs.change.script_change.Given as goal

abbrev pub invariant-loop-position : goal.invariant-loop-position
invariant-loop-position l = AreNoted l.tree (take l.position l.patch) l.change
