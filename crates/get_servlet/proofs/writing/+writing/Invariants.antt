use Rattle.std.proofs.Common.{◌+◌, ◌-◌, ◌*◌, Some, take}
use Rattle.get_servlet.specs.Steps.{kids_tokens, Spends}
use Rattle.get_servlet.proofs.writing.+writing.Given as goal

-- the kids so far are written
abbrev pub invariant-write_kids-loop-name : goal.invariant-write_kids-loop-name
invariant-write_kids-loop-name g l = Spends l.bounds.room (Some l.left) l.fn.writer l.writer (kids_tokens (g.L.Look.seen l.look) (l.bounds.depth - 1) l.at.path.now l.at.res.now (take l.name-index l.at.res.now.kids))

-- the levels that are left fall with each kid
abbrev pub decreases-write_kids : goal.decreases-write_kids
decreases-write_kids g l = 4 * l.bounds.depth

abbrev pub decreases-write_resource : goal.decreases-write_resource
decreases-write_resource g l = 4 * l.bounds.depth + 1

abbrev pub decreases-write_kid : goal.decreases-write_kid
decreases-write_kid g l = 4 * l.bounds.depth + 3

abbrev pub decreases-write_member : goal.decreases-write_member
decreases-write_member g l = 4 * l.bounds.depth + 2
