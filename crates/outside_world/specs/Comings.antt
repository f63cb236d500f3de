-- Which happenings may come one after the other, and which connections a world in memory keeps room for.
use Rattle.std.specs.Prelude.{◌≡◌, ◌≤◌, ◌++◌, ◌==◌, ◌+◌, ℕ, Bool, List, [], ◌∷◌, Some, length, map, false}
use Rattle.std.specs.List.{flat_map, list_any}
use Rattle.connection_ids.specs.Ids.{ConnectionId}
use Rattle.outside_world.specs.declared.world.Happening.{Happening}
use Rattle.outside_world.specs.declared.world.WorldEntry.{WorldEntry}
use Rattle.outside_world.specs.declared.world.WorldEntry.TheVariants.{Came}
use Rattle.outside_world.specs.Worlds.{IsNewsTo, is_connected}

-- After these happenings those may come: each is news after all before it, of which no connection was shut.
abbrev pub MayComeAfter : List Happening → List Happening → Type 0
MayComeAfter before [] = Unit {0}
MayComeAfter before (happening ∷ later) = IsNewsTo (Some (map Came before)) happening × MayComeAfter (before ++ happening ∷ []) later

-- these happenings may come
abbrev pub MayCome : List Happening → Type 0
MayCome happenings = MayComeAfter [] happenings

-- what an entry says that came
abbrev pub news_of_entry : WorldEntry → List Happening
news_of_entry (Came happening) = happening ∷ []
news_of_entry _ = []

-- what came, of all that a log tells
abbrev pub news_of : List WorldEntry → List Happening
news_of log = flat_map news_of_entry log

-- a connection is among these
abbrev pub has_connection : ConnectionId → List ConnectionId → Bool
has_connection c connections = list_any (λ d. d == c) connections

-- These are the connections that are open after a log, and there is room for one more entry for each.
pub record KeepsRoom (capacity : ℕ) (log : List WorldEntry) (connections : List ConnectionId) : Type 0 where
  pub listed : (c : ConnectionId) → is_connected log c ≡ has_connection c connections
  pub room : length log + length connections ≤ capacity

-- no connection with this number is open after these happenings
abbrev pub HasFreeNumberAfter : List Happening → ConnectionId → Type 0
HasFreeNumberAfter before c = is_connected (map Came before) c ≡ false
