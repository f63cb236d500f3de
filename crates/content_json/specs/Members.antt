-- What proofs and private functions need: members in the order of their names, and what holds of each.
use Rattle.std.specs.Prelude.{ℕ, List, [], ◌∷◌, T, ⊤}
use Rattle.std.specs.FinMap.Entries.{is_sorted}
use Rattle.serde_json.specs.Data.{Data, Members, no_members, member}
use Rattle.sp_base.specs.Names.{by_name}

-- the members, each a name and a value
abbrev pub entries_of : Members → List (List ℕ × Data)
entries_of no_members = []
entries_of (member k d ms) = (k, d) ∷ entries_of ms

-- the names rise
abbrev pub AreSorted : Members → Type 0
AreSorted ms = T (is_sorted by_name (entries_of ms))

-- what holds of each member
abbrev pub AllMembers : (List ℕ → Data → Type 0) → Members → Type 0
AllMembers P no_members = ⊤
AllMembers P (member k d ms) = P k d × AllMembers P ms
