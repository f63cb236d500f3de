use Rattle.std.proofs.Common.{◌≡◌, ◌≤◌, length, take}
use Rattle.get_servlet.specs.Steps.{next_level}
use Rattle.get_servlet.proofs.measure.next_level.Given as goal

-- the kids of the level so far are there, and at most n
abbrev pub invariant-loop-kid : goal.invariant-loop-kid
invariant-loop-kid g l = (l.next.items ≡ next_level (g.L.Look.seen l.look) (take l.kid-index l.level)) × (length l.next.items ≤ l.most)
