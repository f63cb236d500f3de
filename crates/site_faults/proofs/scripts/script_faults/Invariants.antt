use Rattle.std.proofs.Common.{take}
use Rattle.site_faults.proofs.Tellings.{TellsRows}
use Rattle.site_faults.proofs.scripts.script_faults.Given as goal

abbrev pub invariant-loop-row : goal.invariant-loop-row
invariant-loop-row l = TellsRows (λ r. r.0.now) l.tree (take l.row-index l.rows) l.told.entries
