use Rattle.std.proofs.Common.{◌≡◌, ◌+◌, ◌*◌, ◌≤◌, ℕ, length}
use Rattle.json.specs.Json.{members, value}
use Rattle.serde_json.specs.Data.{Members}
use Rattle.serde_json.specs.Read.{of_members, converted}
use Rattle.content_json.specs.Parts.{HoldsMembers}
use Rattle.content_json.specs.Tokens.{members_of_tokens}
use Rattle.content_json.proofs.from_tokens.+from_tokens.Given as goal

-- the levels that are left fall with each kid
abbrev pub decreases-read_object : goal.decreases-read_object
decreases-read_object l = 4 * l.levels + 3

abbrev pub decreases-read_members : goal.decreases-read_members
decreases-read_members l = 4 * l.levels + 2

abbrev pub decreases-read_member : goal.decreases-read_member
decreases-read_member l = 4 * l.levels + 1

abbrev pub decreases-read_kid : goal.decreases-read_kid
decreases-read_kid l = 4 * l.levels

-- the members so far are taken in, and what is left to read makes the same object with them
abbrev pub invariant-read_members-members : goal.invariant-read_members-members
invariant-read_members-members l =
    (n : ℕ) × (found : Members) × (length l.reader ≤ n)
    × (members_of_tokens (l.levels + 62) l.initial.reader ≡ converted (λ js. of_members js found) (members (value (l.levels + 62)) n l.reader))
    × (length l.reader ≤ length l.initial.reader) × HoldsMembers l.levels l.path l.parent found

abbrev pub decreases-read_members-members : goal.decreases-read_members-members
decreases-read_members-members l = length l.reader
