-- What the laws of logs say that takes more than a line.
use Rattle.std.specs.Prelude.{List, ◌++◌, ◌∷◌, None, Some, [], IsTrue, ◌≡◌, Option, ◌≤◌, ◌↔◌}
use Rattle.sp_base.specs.declared.answer.Answer.{Answer}
use Rattle.any_config.specs.declared.farm.Farm.{Farm}
use Rattle.cover_rules.specs.declared.invalidation.Invalidation.{Invalidation}
use Rattle.cover_rules.specs.declared.page.PageKey.{PageKey}
use Rattle.dispatch_rules.specs.Caching.{is_storable}
use Rattle.cache_log.specs.Entries.{LogEntry, Asked, Begun, Ended, Failed, Hit, Kept, Landed, Lost, Session, Sliced, Up, flights_asked, flushes_begun, Done, Fate}
use Rattle.cache_log.specs.Flown.{IsPermittedHit, IsClearFlight, IsPermittedBy, IsUnfinishedFlush, since_asking}
use Rattle.cache_log.specs.Hits.{Unfinished, InAir, Covers, IsClear, MayHit, MustHit, stored}
use Rattle.cache_ids.specs.Ids.{FlightId, FlushId}
use Rattle.cache_log.specs.Rules.{AllAllowed, CallConditions, IsLegal, Allowed}

-- a legal log stays legal with the entries of a call that are allowed
abbrev pub StaysLegal : Farm → CallConditions → List LogEntry → List LogEntry → Type 0
StaysLegal farm under entries log = AllAllowed farm under entries log → IsLegal farm log → IsLegal farm (entries ++ log)

-- an entry at a place of a legal log was allowed by the log before it, which is legal too
abbrev pub WasAllowedIfLegal : Farm → List LogEntry → LogEntry → List LogEntry → Type 0
WasAllowedIfLegal farm since entry before = IsLegal farm (since ++ entry ∷ before) → ((under : CallConditions) × Allowed farm under entry before) × IsLegal farm before

-- A session begins; a flight is asked for the page, and its answer is kept; the page is a hit; a second flight is asked; a flush begins, and a
-- slice leaves more to do; a restart loses the flight, fails the flush and comes up; and a second session begins.
abbrev pub two_sessions : PageKey → Answer → Invalidation → List LogEntry
two_sessions key answer inv = Session 3 ∷ Up 2 ∷ Ended 1 Failed ∷ Lost 2 ∷ Sliced 1 ∷ Begun 1 inv ∷ Asked 2 None ∷ Hit key ∷ Landed 1 (Some key) answer Kept ∷ Asked 1 (Some key) ∷ Session 1 ∷ []

-- a hit at a place of a legal log was permitted there, with some answer
abbrev pub WasPermittedIfLegal : Farm → List LogEntry → PageKey → List LogEntry → Type 0
WasPermittedIfLegal farm since key before = IsLegal farm (since ++ Hit key ∷ before) → (answer : Answer) × IsPermittedHit farm before key answer

-- of each landing of a legal log that is kept the answer is storable, and the flight was clear at its place
abbrev pub KeptLandingsWereClear : Type 0
KeptLandingsWereClear = (farm : Farm) (since : List LogEntry) (flight : FlightId) (key : PageKey) (given : Answer) (before : List LogEntry)
    → IsLegal farm (since ++ Landed flight (Some key) given Kept ∷ before) → IsTrue (is_storable given) × IsClearFlight farm before flight key

-- of a legal log, an unfinished flush has one invalidation
abbrev pub FlushesHaveOneInvalidation : Type 0
FlushesHaveOneInvalidation = (farm : Farm) (log : List LogEntry) (flush : FlushId) (inv other : Invalidation) → IsLegal farm log → Unfinished log flush inv
    → Unfinished log flush other → inv ≡ other

-- of a legal log, the number of a flight in the air is from 1 to as many as were asked in the session
abbrev pub FlightsHaveTheirNumbers : Type 0
FlightsHaveTheirNumbers = (farm : Farm) (log : List LogEntry) (flight : FlightId) (key : Option PageKey) → IsLegal farm log → InAir log flight key
    → (1 ≤ flight) × (flight ≤ flights_asked log)

-- of a legal log, the number of an unfinished flush is from 1 to as many as have begun in the session
abbrev pub FlushesHaveTheirNumbers : Type 0
FlushesHaveTheirNumbers = (farm : Farm) (log : List LogEntry) (flush : FlushId) (inv : Invalidation) → IsLegal farm log → Unfinished log flush inv
    → (1 ≤ flush) × (flush ≤ flushes_begun log)

-- no unfinished flush covers the page of a clear flight
abbrev pub ClearFlightsAreUncovered : Type 0
ClearFlightsAreUncovered = (farm : Farm) (log : List LogEntry) (flight : FlightId) (key : PageKey) (flush : FlushId) (inv : Invalidation) → IsClear farm log flight key
    → Unfinished log flush inv → Covers farm inv key → ⊥

-- a hit may be answered so exactly where a landing permits it
abbrev pub PermitsOfLandings : Farm → List LogEntry → PageKey → Answer → Type 0
PermitsOfLandings farm log key answer = MayHit farm log key answer ↔ IsPermittedHit farm log key answer

-- Wherever a flush that covers the page ended done in the log, what permits the hit was asked for since: the asking of the landing's flight
-- stands among the entries since.
abbrev pub PermittedHitsWereAskedSince : Type 0
PermittedHitsWereAskedSince = (farm : Farm) (log : List LogEntry) (key : PageKey) (fate : Fate) (answer : Answer) (hit : IsPermittedBy farm log key fate answer)
    (since : List LogEntry) (flush : FlushId) (inv : Invalidation) (before : List LogEntry)
    → log ≡ since ++ Ended flush Done ∷ before → IsUnfinishedFlush before flush inv → Covers farm inv key
    → (more : List LogEntry) × (since ≡ since_asking hit.landing ++ Asked hit.landing.flight (Some key) ∷ more)

-- no unfinished flush covers the page of a hit that is owed
abbrev pub OwedHitsAreUncovered : Type 0
OwedHitsAreUncovered = (farm : Farm) (log : List LogEntry) (key : PageKey) (answer : Answer) (flush : FlushId) (inv : Invalidation) → MustHit farm log key answer
    → Unfinished log flush inv → Covers farm inv key → ⊥

-- a landing that is kept is owed at once, as it is stored
abbrev pub KeptLandingsAreOwed : Type 0
KeptLandingsAreOwed = (farm : Farm) (under : CallConditions) (log : List LogEntry) (flight : FlightId) (key : PageKey) (given : Answer)
    → Allowed farm under (Landed flight (Some key) given Kept) log → MustHit farm (Landed flight (Some key) given Kept ∷ log) key (stored given)
