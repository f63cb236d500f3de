use Rattle.std.proofs.Common.{◌≡◌, ◌-◌, ◌+◌, ◌*◌}
use Rattle.any_config.specs.Read.{group, more_members, members}
use Rattle.any_config.proofs.reader.+reader.Given as goal

abbrev pub decreases-group : goal.decreases-group
decreases-group l = 5 * l.depth

abbrev pub decreases-value : goal.decreases-value
decreases-value l = 5 * l.depth + 1

abbrev pub decreases-member : goal.decreases-member
decreases-member l = 5 * l.depth + 2

abbrev pub decreases-members : goal.decreases-members
decreases-members l = 5 * l.depth + 3

abbrev pub decreases-opened : goal.decreases-opened
decreases-opened l = 5 * l.depth + 4

abbrev pub invariant-members-loop-turn : goal.invariant-members-loop-turn
invariant-members-loop-turn l = more_members (group l.depth) (l._turn-end - l._turn) l.found l.rest ≡ members (group l.depth) l.text
