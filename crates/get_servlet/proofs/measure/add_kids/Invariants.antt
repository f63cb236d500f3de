use Rattle.std.proofs.Common.{◌≡◌, ◌++◌, take}
use Rattle.get_servlet.specs.Steps.{kids_under}
use Rattle.get_servlet.proofs.measure.add_kids.Given as goal

-- the kids of the names so far were added
abbrev pub invariant-loop-name : goal.invariant-loop-name
invariant-loop-name g l = l.level.items ≡ l.fn.level.items ++ kids_under (g.L.Look.seen l.look) l.path l.res (take l.name-index l.res.kids)
