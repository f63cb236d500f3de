-- What closes a log, wherever it ends, so that a session may go on with it.
use Rattle.std.specs.Prelude.{◌≡◌, ◌<◌, ◌↔◌, ◌++◌, ℕ, List, [], ◌∷◌, Option, Contains}
use Rattle.cover_rules.specs.declared.page.PageKey.{PageKey}
use Rattle.cover_rules.specs.declared.invalidation.Invalidation.{Invalidation}
use Rattle.cache_ids.specs.Ids.{FlightId, FlushId}
use Rattle.cache_log.specs.Entries.{LogEntry}
use Rattle.cache_log.specs.Hits.{InAir, Unfinished}
use Rattle.coherence_core.specs.Sessions.{failed_entries, lost_entries}

-- each number is above those that stand before it
abbrev pub AreInOrder : List ℕ → Type 0
AreInOrder [] = Unit {0}
AreInOrder (number ∷ numbers) = ((later : ℕ) → Contains numbers later → number < later) × AreInOrder numbers

-- a flight with this number is in the air
abbrev pub HasInAir : List LogEntry → FlightId → Type 0
HasInAir log flight = (key : Option PageKey) × InAir log flight key

-- a flush with this number is unfinished
abbrev pub HasUnfinished : List LogEntry → FlushId → Type 0
HasUnfinished log flush = (inv : Invalidation) × Unfinished log flush inv

-- What closes a log: each flight in the air is lost, by their numbers, and then each unfinished flush is cut off, by their numbers. The next
-- session begins after it.
pub record IsClosing (log entries : List LogEntry) : Type 0 where
  pub flights : List FlightId
  pub flushes : List FlushId
  pub lost : (flight : FlightId) → Contains flights flight ↔ HasInAir log flight
  pub cut_off : (flush : FlushId) → Contains flushes flush ↔ HasUnfinished log flush
  pub flights_in_order : AreInOrder flights
  pub flushes_in_order : AreInOrder flushes
  pub entries_are : entries ≡ failed_entries flushes ++ lost_entries flights
