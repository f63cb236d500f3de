use Rattle.std.proofs.Common.{◌≡◌, ◌≤◌, ℕ, length}
use Rattle.json.specs.Json.{parse_map}
use Rattle.content_json.specs.Tokens.{items_of_tokens, items_within, list_items, items_then, IsList}
use Rattle.content_json.proofs.tokens.list.Given as goal

-- what is left to read makes the same items with those so far
abbrev pub invariant-items : goal.invariant-items
invariant-items l =
    (n : ℕ) × (length l.reader ≤ n) × (IsList l.list) × (items_of_tokens l.depth l.initial.reader ≡ parse_map (items_then (list_items l.list)) (items_within n l.depth l.reader))
    × (length l.reader ≤ length l.initial.reader)

abbrev pub decreases-items : goal.decreases-items
decreases-items l = length l.reader
