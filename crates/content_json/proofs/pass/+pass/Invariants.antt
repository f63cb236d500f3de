use Rattle.std.proofs.Common.{◌≡◌, ℕ, ◌+◌, ◌*◌, ◌≤◌, length}
use Rattle.json.specs.Json.{members, value, parse_map}
use Rattle.serde_json.specs.Data.{Items, Members}
use Rattle.serde_json.specs.Read.{of_members, converted}
use Rattle.content_json.specs.Tokens.{items_within, members_of_tokens}
use Rattle.content_json.proofs.pass.+pass.Given as goal

-- the depth that is left falls with each array and each object
abbrev pub decreases-pass_value : goal.decreases-pass_value
decreases-pass_value l = 2 * l.depth

abbrev pub decreases-pass_items : goal.decreases-pass_items
decreases-pass_items l = 2 * l.depth + 1

abbrev pub decreases-pass_members : goal.decreases-pass_members
decreases-pass_members l = 2 * l.depth + 1

-- what is left to read makes the same items with those so far
abbrev pub invariant-pass_items-items : goal.invariant-pass_items-items
invariant-pass_items-items l =
    ((most : ℕ) → length l.initial.reader ≤ most → (n : ℕ) × (f : Items → Items) × (length l.reader ≤ n)
    × (items_within most l.depth l.initial.reader ≡ parse_map f (items_within n l.depth l.reader)))
    × (length l.reader ≤ length l.initial.reader)

abbrev pub decreases-pass_items-items : goal.decreases-pass_items-items
decreases-pass_items-items l = length l.reader

-- and the same members
abbrev pub invariant-pass_members-members : goal.invariant-pass_members-members
invariant-pass_members-members l =
    (n : ℕ) × (found : Members) × (length l.reader ≤ n)
    × (members_of_tokens l.depth l.initial.reader ≡ converted (λ js. of_members js found) (members (value l.depth) n l.reader))
    × (length l.reader ≤ length l.initial.reader)

abbrev pub decreases-pass_members-members : goal.decreases-pass_members-members
decreases-pass_members-members l = length l.reader
