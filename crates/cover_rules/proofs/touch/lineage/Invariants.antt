use Rattle.std.proofs.Common.{◌≡◌, take}
use Rattle.cover_rules.specs.Coverage.{lineage}
use Rattle.cover_rules.proofs.touch.lineage.Given as goal

abbrev pub invariant-loop-n : goal.invariant-loop-n
invariant-loop-n l = l.paths ≡ take l.n (lineage l.path)
