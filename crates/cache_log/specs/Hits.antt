-- What a cache may answer from its store and what it owes, by its log, entry by entry from the newest back. A definition names the entries of
-- which it says something; at each other entry it says what it said before. (`Flown` says the same by places in the log.)
use Rattle.std.specs.Prelude.{◌≡◌, ◌≢◌, ◌⊎◌, IsTrue, List, [], ◌∷◌, Option, Some}
use Rattle.sp_base.specs.declared.answer.Answer.{Answer}
use Rattle.any_config.specs.declared.farm.Farm.{Farm}
use Rattle.cover_rules.specs.declared.page.PageKey.{PageKey}
use Rattle.cover_rules.specs.declared.invalidation.Invalidation.{Invalidation}
use Rattle.cover_rules.specs.Coverage.{covers}
use Rattle.dispatch_rules.specs.Caching.{is_auto}
use Rattle.cache_ids.specs.Ids.{FlightId, FlushId}
use Rattle.cache_log.specs.Entries.{Kept, Unkept, Done, LogEntry, Asked, Landed, Lost, Begun, Ended}

-- The invalidation covers the page, before this farm: it deletes it, or a .stat file that it touches outdates it (Adobe Dispatcher manual,
-- "Invalidating Cached Pages From AEM").
abbrev pub Covers : Farm → Invalidation → PageKey → Type 0
Covers farm inv key = IsTrue (covers farm.level (is_auto farm key) inv key)

-- an answer as it is stored: without a location
abbrev pub stored : Answer → Answer
stored answer = record answer { location = [] }

-- the flush has begun with this invalidation, and has not ended
abbrev pub Unfinished : List LogEntry → FlushId → Invalidation → Type 0
Unfinished [] flush inv = ⊥
Unfinished (Begun number begun ∷ log) flush inv = ((number ≡ flush) × (begun ≡ inv)) ⊎ Unfinished log flush inv
Unfinished (Ended number outcome ∷ log) flush inv = (number ≢ flush) × Unfinished log flush inv
Unfinished (_ ∷ log) flush inv = Unfinished log flush inv

-- the flight was asked, for this page or for none, and has neither landed nor been lost
abbrev pub InAir : List LogEntry → FlightId → Option PageKey → Type 0
InAir [] flight key = ⊥
InAir (Asked number asked ∷ log) flight key = ((number ≡ flight) × (asked ≡ key)) ⊎ ((number ≢ flight) × InAir log flight key)
InAir (Landed number landed answer fate ∷ log) flight key = (number ≢ flight) × InAir log flight key
InAir (Lost number ∷ log) flight key = (number ≢ flight) × InAir log flight key
InAir (_ ∷ log) flight key = InAir log flight key

-- no flush that covers the page is unfinished
abbrev pub NoneUnfinished : Farm → List LogEntry → PageKey → Type 0
NoneUnfinished farm log key = (flush : FlushId) (inv : Invalidation) → Unfinished log flush inv → Covers farm inv key → ⊥

-- the flight is clear: it was asked for this page, no flush that covers the page was unfinished then, and none has begun since
abbrev pub IsClear : Farm → List LogEntry → FlightId → PageKey → Type 0
IsClear farm [] flight key = ⊥
IsClear farm (Asked number asked ∷ log) flight key = ((number ≡ flight) × (asked ≡ Some key) × NoneUnfinished farm log key) ⊎ ((number ≢ flight) × IsClear farm log flight key)
IsClear farm (Begun number inv ∷ log) flight key = (Covers farm inv key → ⊥) × IsClear farm log flight key
IsClear farm (_ ∷ log) flight key = IsClear farm log flight key

-- the unfinished flush with this number doesn't cover the page
abbrev pub SparesPage : Farm → List LogEntry → FlushId → PageKey → Type 0
SparesPage farm log flush key = (inv : Invalidation) → Unfinished log flush inv → Covers farm inv key → ⊥

-- no flush that covers the page has ended done since the flight was asked
abbrev pub NoneDoneSince : Farm → List LogEntry → FlightId → PageKey → Type 0
NoneDoneSince farm [] flight key = Unit {0}
NoneDoneSince farm (Asked number asked ∷ log) flight key = number ≢ flight → NoneDoneSince farm log flight key
NoneDoneSince farm (Ended number Done ∷ log) flight key = SparesPage farm log number key × NoneDoneSince farm log flight key
NoneDoneSince farm (_ ∷ log) flight key = NoneDoneSince farm log flight key

-- A hit on the page may be answered so (RFC 9111, sections 4 and 4.4): a landing of the page was kept or unkept with this answer, none was
-- kept since, and no flush that covers the page has ended done since its flight was asked.
abbrev pub MayHit : Farm → List LogEntry → PageKey → Answer → Type 0
MayHit farm [] key answer = ⊥
MayHit farm (Landed number landed given Kept ∷ log) key answer = ((landed ≡ Some key) × (stored given ≡ answer) × NoneDoneSince farm log number key) ⊎ ((landed ≢ Some key) × MayHit farm log key answer)
MayHit farm (Landed number landed given Unkept ∷ log) key answer = ((landed ≡ Some key) × (stored given ≡ answer) × NoneDoneSince farm log number key) ⊎ MayHit farm log key answer
MayHit farm (Ended number Done ∷ log) key answer = SparesPage farm log number key × MayHit farm log key answer
MayHit farm (_ ∷ log) key answer = MayHit farm log key answer

-- A request for the page must be a hit with this answer: the last landing of the page that was not passed was kept with it, its flight was
-- clear then, and no flush that covers the page has begun since.
abbrev pub MustHit : Farm → List LogEntry → PageKey → Answer → Type 0
MustHit farm [] key answer = ⊥
MustHit farm (Landed number landed given Kept ∷ log) key answer = ((landed ≡ Some key) × (stored given ≡ answer) × IsClear farm log number key) ⊎ ((landed ≢ Some key) × MustHit farm log key answer)
MustHit farm (Landed number landed given Unkept ∷ log) key answer = (landed ≢ Some key) × MustHit farm log key answer
MustHit farm (Begun number inv ∷ log) key answer = (Covers farm inv key → ⊥) × MustHit farm log key answer
MustHit farm (_ ∷ log) key answer = MustHit farm log key answer

-- a flush with this invalidation ended done
abbrev pub HasDone : List LogEntry → Invalidation → Type 0
HasDone [] inv = ⊥
HasDone (Ended number Done ∷ log) inv = Unfinished log number inv ⊎ HasDone log inv
HasDone (_ ∷ log) inv = HasDone log inv
