use Rattle.std.proofs.Common.{◌+◌, ◌-◌, ◌*◌, length, take}
use Rattle.property_json.specs.PropertyJson.{Adds}
use Rattle.content_json.specs.Steps.{kid_tokens, AreBelowKids}
use Rattle.content_json.proofs.write.+writing.Given as goal

-- the levels that are left fall with each kid
abbrev pub decreases-write_kids : goal.decreases-write_kids
decreases-write_kids l = 2 * (64 - length l.path.now)

abbrev pub decreases-write_node : goal.decreases-write_node
decreases-write_node l = 2 * (64 - length l.path.now) + 1

-- the kids so far are written
abbrev pub invariant-write_kids-loop-name : goal.invariant-write_kids-loop-name
invariant-write_kids-loop-name l =
    Adds l.fn.writer l.writer (kid_tokens l.tree l.path (take l.name-index l.node.kids)) × AreBelowKids l.tree l.path (take l.name-index l.node.kids)
