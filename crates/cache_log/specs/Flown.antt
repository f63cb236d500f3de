-- What a cache may answer from its store and what it owes, by places in its log: what stands before a place in the list came after it.
-- (`Hits` says the same entry by entry, and the laws of this crate say that the two agree.)
use Rattle.std.specs.Prelude.{◌≡◌, ◌≢◌, ◌⊎◌, ◌++◌, ℕ, List, ◌∷◌, Option, Some, Contains}
use Rattle.sp_base.specs.declared.answer.Answer.{Answer}
use Rattle.any_config.specs.declared.farm.Farm.{Farm}
use Rattle.cover_rules.specs.declared.page.PageKey.{PageKey}
use Rattle.cover_rules.specs.declared.invalidation.Invalidation.{Invalidation}
use Rattle.cache_ids.specs.Ids.{FlightId, FlushId}
use Rattle.cache_log.specs.Entries.{Fate, Kept, Unkept, Passed, FlushOutcome, Done, LogEntry, Asked, Landed, Lost, Begun, Ended, Up, Session}
use Rattle.cache_log.specs.Hits.{Covers, stored}

-- a restart of the log came up with this epoch, or a session of it began with it
abbrev pub HasEpoch : List LogEntry → ℕ → Type 0
HasEpoch log epoch = Contains log (Up epoch) ⊎ Contains log (Session epoch)

-- An unfinished flush: it began at a place of the log, and none with its number has ended since.
pub record IsUnfinishedFlush (log : List LogEntry) (flush : FlushId) (inv : Invalidation) : Type 0 where
  pub since : List LogEntry
  pub before : List LogEntry
  pub place : log ≡ since ++ Begun flush inv ∷ before
  pub none_ended : (outcome : FlushOutcome) → Contains since (Ended flush outcome) → ⊥

-- A flush that ended done: it ended so at a place of the log, and was unfinished before.
pub record IsDoneFlush (log : List LogEntry) (inv : Invalidation) : Type 0 where
  pub flush : FlushId
  pub since : List LogEntry
  pub before : List LogEntry
  pub place : log ≡ since ++ Ended flush Done ∷ before
  pub unfinished : IsUnfinishedFlush before flush inv

-- A flight: it was asked at a place of the log, and none with its number has been asked since.
pub record IsFlight (log : List LogEntry) (flight : FlightId) (key : Option PageKey) : Type 0 where
  pub since : List LogEntry
  pub before : List LogEntry
  pub place : log ≡ since ++ Asked flight key ∷ before
  pub none_asked : (other : Option PageKey) → Contains since (Asked flight other) → ⊥

-- A flight in the air: since it was asked it has not landed, and has not been lost.
pub record IsFlying (log : List LogEntry) (flight : FlightId) (key : Option PageKey) : Type 0 where
  pub asking : IsFlight log flight key
  pub none_landed : (other : Option PageKey) (answer : Answer) (fate : Fate) → Contains asking.since (Landed flight other answer fate) → ⊥
  pub none_lost : Contains asking.since (Lost flight) → ⊥

-- A page is clear between a place and the end of the log: no flush that covers it was unfinished at the place, and none has begun since.
pub record IsClearSince (farm : Farm) (since before : List LogEntry) (key : PageKey) : Type 0 where
  pub none_unfinished : (flush : FlushId) (inv : Invalidation) → IsUnfinishedFlush before flush inv → Covers farm inv key → ⊥
  pub none_begun : (flush : FlushId) (inv : Invalidation) → Contains since (Begun flush inv) → Covers farm inv key → ⊥

-- A clear flight: it was asked for the page, which is clear since then.
pub record IsClearFlight (farm : Farm) (log : List LogEntry) (flight : FlightId) (key : PageKey) : Type 0 where
  pub asking : IsFlight log flight (Some key)
  pub clear : IsClearSince farm asking.since asking.before key

-- A landing of the page with this answer, as it is stored: its flight was asked for the page at a place of the log, and landed at a place
-- since then, and none with its number was asked in between.
pub record IsLanding (log : List LogEntry) (key : PageKey) (fate : Fate) (answer : Answer) : Type 0 where
  pub flight : FlightId
  pub given : Answer
  pub since : List LogEntry
  pub in_flight : List LogEntry
  pub before : List LogEntry
  pub place : log ≡ (since ++ Landed flight (Some key) given fate ∷ in_flight) ++ Asked flight (Some key) ∷ before
  pub none_asked : (other : Option PageKey) → Contains in_flight (Asked flight other) → ⊥
  pub stored_is : stored given ≡ answer

-- what came since the flight of a landing was asked
abbrev pub since_asking : {log : List LogEntry} {key : PageKey} {fate : Fate} {answer : Answer} → IsLanding log key fate answer → List LogEntry
since_asking {log} {key} {fate} {answer} landing = landing.since ++ Landed landing.flight (Some key) landing.given fate ∷ landing.in_flight

-- no flush that covers the page ended done among these entries, before which came the others
abbrev pub NoneDoneIn : Farm → List LogEntry → List LogEntry → PageKey → Type 0
NoneDoneIn farm entries others key = (later earlier : List LogEntry) (flush : FlushId) (inv : Invalidation) → entries ≡ later ++ Ended flush Done ∷ earlier → IsUnfinishedFlush (earlier ++ others) flush inv → Covers farm inv key → ⊥

-- A permitted hit, by a landing of this fate: no landing of the page was kept since, and no flush that covers the page has ended done since
-- its flight was asked.
pub record IsPermittedBy (farm : Farm) (log : List LogEntry) (key : PageKey) (fate : Fate) (answer : Answer) : Type 0 where
  pub landing : IsLanding log key fate answer
  pub none_kept : (flight : FlightId) (other : Answer) → Contains landing.since (Landed flight (Some key) other Kept) → ⊥
  pub none_done : NoneDoneIn farm (since_asking landing) (Asked landing.flight (Some key) ∷ landing.before) key

-- A permitted hit: by a landing that was kept, or by one that was unkept.
abbrev pub IsPermittedHit : Farm → List LogEntry → PageKey → Answer → Type 0
IsPermittedHit farm log key answer = IsPermittedBy farm log key Kept answer ⊎ IsPermittedBy farm log key Unkept answer

-- An owed hit: a landing of the page was kept with the answer, each later one was passed, and the page is clear since its flight was asked.
pub record IsOwedHit (farm : Farm) (log : List LogEntry) (key : PageKey) (answer : Answer) : Type 0 where
  pub landing : IsLanding log key Kept answer
  pub none_stored : (flight : FlightId) (other : Answer) (fate : Fate) → fate ≢ Passed → Contains landing.since (Landed flight (Some key) other fate) → ⊥
  pub clear : IsClearSince farm (since_asking landing) landing.before key
