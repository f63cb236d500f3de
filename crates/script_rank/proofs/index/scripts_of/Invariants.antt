use Rattle.std.proofs.Common.{take}
use Rattle.std.specs.Map.Iter.{deref_pair}
use Rattle.script_rank.proofs.TextLemmas.{AreScriptsSoFar}
use Rattle.script_rank.proofs.index.scripts_of.Given as goal

abbrev pub invariant-loop-row : goal.invariant-loop-row
invariant-loop-row l = AreScriptsSoFar deref_pair (take l.row-index l.rows) l.scripts.items
