-- What events act on: the state of a run.
use Rattle.std.specs.Prelude.{◌<◌, ◌≤◌, ◌≡◌, ℕ, Bool, List, [], ◌∷◌, Option, None, is_some, length, nat_eq}
use Rattle.std.specs.List.{list_any}
use Rattle.resource_tree.specs.Content.{Content}
use Rattle.any_config.specs.declared.farm.Farm.{Farm}
use Rattle.cache_log.specs.Entries.{LogEntry, flights_asked}
use Rattle.cache_ids.specs.Ids.{FlushId}
use Rattle.connections.specs.Connections.{Connection}
use Rattle.connections.specs.Ids.{ConnectionId}
use Rattle.run_events.specs.declared.flying.Flying.{Flying}
use Rattle.run_events.specs.declared.flying.Flushing.{Flushing}
use Rattle.run_events.specs.Publishers.{Publishing}

-- The state of a run: the publisher, the farm before it, and its content; the open connections and how many they are; the flights in
-- the air by number; the unfinished flushes, the oldest first, and that one whose first slice is due; the log of the cache, its newest
-- entry first; and how many files the document root had when the session began.
pub record RunState : Type 0 where
  pub publishing : Publishing
  pub farm : Farm
  pub content : Content
  pub connection : ConnectionId → Option Connection
  pub connection_count : ℕ
  pub flights : List Flying
  pub flushes : List Flushing
  pub slicing : Option FlushId
  pub log : List LogEntry
  pub found : ℕ

-- what a run begins with: a publisher, the farm before it, and its content; the log of the cache, in which a session has just begun, and
-- how many files the document root has then
pub record Start : Type 0 where
  pub publishing : Publishing
  pub farm : Farm
  pub content : Content
  pub log : List LogEntry
  pub found : ℕ

-- the state in which a run begins: no connection is open, and nothing is in the air or unfinished
abbrev pub start_of : Start → RunState
start_of s = record {
  publishing = s.publishing;
  farm = s.farm;
  content = s.content;
  connection = λ c. None;
  connection_count = 0;
  flights = [];
  flushes = [];
  slicing = None;
  log = s.log;
  found = s.found;
}

-- ---- what is so in every run

-- the numbers of the flights rise, all above the one and none above the other
abbrev pub AirRises : ℕ → List Flying → ℕ → Type 0
AirRises least [] most = least ≤ most
AirRises least (flying ∷ flights) most = (least < flying.number) × AirRises flying.number flights most

-- the flights in the air rise by number, and none has a higher number than were asked
abbrev pub AreFlightsRising : RunState → Type 0
AreFlightsRising w = AirRises 0 w.flights (flights_asked w.log)

-- the numbers rise, all above this one
abbrev pub AreAbove : ConnectionId → List ConnectionId → Type 0
AreAbove least [] = Unit {0}
AreAbove least (c ∷ numbers) = (least < c) × AreAbove c numbers

-- the numbers rise
abbrev pub AreNumbersRising : List ConnectionId → Type 0
AreNumbersRising [] = Unit {0}
AreNumbersRising (c ∷ numbers) = AreAbove c numbers

-- the number is among these
abbrev pub is_among : ConnectionId → List ConnectionId → Bool
is_among c numbers = list_any (λ d. nat_eq d c) numbers

-- these are the numbers of the open connections, each once, in their order
pub record AreOpen (w : RunState) (numbers : List ConnectionId) : Type 0 where
  pub rising : AreNumbersRising numbers
  pub each : (c : ConnectionId) → is_some (w.connection c) ≡ is_among c numbers

-- the open connections are those with these numbers, each once, and as many are counted
pub record AreConnectionsCounted (w : RunState) : Type 0 where
  pub numbers : List ConnectionId
  pub rising : AreNumbersRising numbers
  pub each : (c : ConnectionId) → is_some (w.connection c) ≡ is_among c numbers
  pub count : w.connection_count ≡ length numbers
