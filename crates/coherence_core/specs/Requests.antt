-- What a request gets, and why (Adobe Dispatcher manual, "Configuring Dispatcher" and "Invalidating Cached Pages From AEM"; RFC 9111, section 4).
use Rattle.std.specs.Prelude.{◌≡◌, ◌⊎◌, ◌<◌, ◌≤◌, Bool, true, false, List, [], ◌∷◌, Option, Some, Ok, Err, IsTrue, length}
use Rattle.sp_base.specs.Requests.{Request}
use Rattle.sp_base.specs.Texts.{Text}
use Rattle.glob_rules.specs.Rules.{allows}
use Rattle.cover_rules.specs.declared.page.PageKey.{PageKey}
use Rattle.cover_rules.specs.declared.invalidation.Invalidation.{Invalidation}
use Rattle.dispatch_rules.specs.Admission.{admits}
use Rattle.dispatch_rules.specs.Caching.{cache_key, is_storable}
use Rattle.flights.specs.Flights.{most_flights}
use Rattle.invalidation.specs.Invalidations.{invalidation_of, is_invalidation}
use Rattle.cache_ids.specs.Ids.{FlightId, FlushId}
use Rattle.cache_log.specs.Entries.{LogEntry, Asked, Begun, Hit as hit_entry}
use Rattle.cache_log.specs.Hits.{MayHit}
use Rattle.cache_log.specs.Rules.{CallConditions, IsOwed}
use Rattle.coherence_core.specs.Cores.{conditions_of_call, drawn_of}
use Rattle.coherence_core.specs.declared.core_state.Core.{Core}
use Rattle.coherence_core.specs.declared.answers.Got.{Got}
use Rattle.coherence_core.specs.declared.answers.Got.TheVariants as got
use Rattle.coherence_core.specs.declared.answers.Requested.{Requested}
use Rattle.cache_log.specs.Limits.{most_flushes, most_stamps}

-- what a request adds to the log
abbrev pub got_entries : Got → List LogEntry
got_entries (got.Hit key answer) = hit_entry key ∷ []
got_entries (got.Asked ticket key) = Asked ticket key ∷ []
got_entries (got.Flush flush inv) = Begun flush inv ∷ []
got_entries _ = []

-- the number of the flight that it asked, if any
abbrev pub got_flights : Got → List FlightId
got_flights (got.Asked ticket key) = ticket ∷ []
got_flights _ = []

-- that flight, and its page or none
abbrev pub got_labels : Got → List (FlightId × Option PageKey)
got_labels (got.Asked ticket key) = (ticket, key) ∷ []
got_labels _ = []

-- the number of the flush that it began, if any
abbrev pub got_flushes : Got → List FlushId
got_flushes (got.Flush flush inv) = flush ∷ []
got_flushes _ = []

-- it found no memory
abbrev pub is_got_out_of_memory : Got → Bool
is_got_out_of_memory got.NoMemory = true
is_got_out_of_memory _ = false

-- what the call ran under
abbrev pub requested_under : Requested → CallConditions
requested_under requested = conditions_of_call requested.disk_failed (is_got_out_of_memory requested.got)

-- a request that reaches the cache: the cache is up, no invalidation is asked for, and the farm admits the request
pub record ReachesCache (core : Core) (req : Request) : Type 0 where
  pub up : core.down ≡ false
  pub page : is_invalidation req ≡ false
  pub admitted : admits core.farm req ≡ true

-- a request for an invalidation, of a client that may: the cache is up
pub record MayFlush (core : Core) (req : Request) (peer : Text) : Type 0 where
  pub up : core.down ≡ false
  pub flush : is_invalidation req ≡ true
  pub allowed : allows core.farm.clients peer ≡ true

-- an invalidation is named, and fewer are unfinished than may be
pub record HasRoomToFlush (core : Core) (req : Request) : Type 0 where
  pub named : (inv : Invalidation) × (invalidation_of req ≡ Ok inv)
  pub room : length core.queue.items < most_flushes

-- a page that isn't owed, unless the disk failed
abbrev pub IsNotOwed : Core → List LogEntry → Request → Bool → Type 0
IsNotOwed core log req disk_failed = IsOwed core.farm log (cache_key core.farm req) → IsTrue disk_failed

-- a request that reaches the publisher: it reaches the cache, which answers no page for it, and fewer flights are in the air than may be
pub record ReachesPublisher (core : Core) (log : List LogEntry) (req : Request) (disk_failed : Bool) : Type 0 where
  pub cache : ReachesCache core req
  pub passed : IsNotOwed core log req disk_failed
  pub room : length core.flights < most_flights

-- Why a request got this. The first that applies: the cache is down; an invalidation is forbidden, refused, one too many, of a session
-- without stamps, or begins; the farm denies the request; the cache answers; too many flights are in the air; the session has no stamp
-- left; or the publisher is asked.
abbrev pub GotAs : Core → List LogEntry → Request → Text → Bool → Got → Type 0
GotAs core log req peer disk_failed got.Down = core.down ≡ true
GotAs core log req peer disk_failed got.FlushForbidden = (core.down ≡ false) × (is_invalidation req ≡ true) × (allows core.farm.clients peer ≡ false)
GotAs core log req peer disk_failed (got.FlushRefused fault) = MayFlush core req peer × (invalidation_of req ≡ Err fault)
GotAs core log req peer disk_failed got.FullPurge = MayFlush core req peer × ((inv : Invalidation) × (invalidation_of req ≡ Ok inv)) × (most_flushes ≤ length core.queue.items)
GotAs core log req peer disk_failed (got.Flush flush inv) = MayFlush core req peer × (invalidation_of req ≡ Ok inv) × HasRoomToFlush core req × (drawn_of core < most_stamps)
GotAs core log req peer disk_failed got.Denied = (core.down ≡ false) × (is_invalidation req ≡ false) × (admits core.farm req ≡ false)
GotAs core log req peer disk_failed (got.Hit key answer) = ReachesCache core req × (cache_key core.farm req ≡ Some key) × MayHit core.farm log key answer × IsTrue (is_storable answer)
GotAs core log req peer disk_failed got.FullAir = ReachesCache core req × IsNotOwed core log req disk_failed × (most_flights ≤ length core.flights)
GotAs core log req peer disk_failed got.Worn = ((MayFlush core req peer × HasRoomToFlush core req) ⊎ ReachesPublisher core log req disk_failed) × (most_stamps ≤ drawn_of core)
GotAs core log req peer disk_failed (got.Asked ticket key) = ReachesPublisher core log req disk_failed × (key ≡ cache_key core.farm req) × (drawn_of core < most_stamps)
GotAs core log req peer disk_failed got.NoMemory = Unit {0}
