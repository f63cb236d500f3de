-- What the parts of a core and its files stand for, over plain values. No rule of the log speaks of a stamp: this ties the two.
use Rattle.std.specs.Prelude.{◌≡◌, ◌≢◌, ◌⊎◌, ◌<◌, ◌≤◌, ◌+◌, ℕ, true, false, List, [], ◌∷◌, Option, Some, None, Contains, IsSome}
use Rattle.sp_base.specs.Texts.{Segments}
use Rattle.sp_base.specs.declared.answer.Answer.{Answer}
use Rattle.any_config.specs.declared.farm.Farm.{Farm}
use Rattle.cover_rules.specs.Pages.{IsPageKey}
use Rattle.cover_rules.specs.declared.page.PageKey.{PageKey}
use Rattle.cover_rules.specs.declared.stamp.Stamp.{Stamp}
use Rattle.cover_rules.specs.declared.invalidation.Invalidation.{Invalidation}
use Rattle.cover_rules.specs.Coverage.{touched_of}
use Rattle.dispatch_rules.specs.Caching.{is_auto}
use Rattle.cache_files.specs.declared.head_note.HeadNote.{HeadNote}
use Rattle.cache_files.specs.declared.page.Page.{Page}
use Rattle.docroot_changes.specs.Changes.{IsStampFolder}
use Rattle.flights.specs.declared.flight.Flight.{Flight}
use Rattle.flights.specs.Flights.{AreRising}
use Rattle.invalidation.specs.declared.purge.Purge.{Purge}
use Rattle.invalidation.specs.Slices.{Progress}
use Rattle.cache_ids.specs.Ids.{FlightId, FlushId}
use Rattle.cache_log.specs.Entries.{LogEntry, downs_since, flights_asked, flushes_begun, last_epoch, stamps_drawn}
use Rattle.cache_log.specs.Hits.{Covers, HasDone, InAir, IsClear, MayHit, MustHit, Unfinished}
use Rattle.cache_log.specs.Rules.{IsAboveAll}
use Rattle.coherence_core.specs.Served.{Before, IsFresh, Pages, Stamps, serves_page, stat_for}
use Rattle.coherence_core.specs.StampTies.{TiesStamps}
use Rattle.coherence_core.specs.declared.pending.Pending.{Pending}

-- the stamp of this epoch and count
abbrev pub stamp : ℕ → ℕ → Stamp
stamp epoch count = record { epoch = epoch; count = count }

-- ---- pages

-- The pages and the stamps hold the log: what they answer is permitted, what is owed they answer, and each folder has a stamp that a flush
-- touched which ended done.
pub record HoldsPages (farm : Farm) (page : Pages) (stat : Stamps) (log : List LogEntry) : Type 0 where
  pub may : (key : PageKey) (answer : Answer) → IsPageKey key → serves_page farm page stat key ≡ Some answer → MayHit farm log key answer
  pub must : (key : PageKey) (answer : Answer) → IsPageKey key → MustHit farm log key answer → serves_page farm page stat key ≡ Some answer
  pub touched : (inv : Invalidation) (folder : Segments) → HasDone log inv → IsStampFolder folder → Contains (touched_of farm.level inv) folder → IsSome (stat folder)

-- each page and each folder has a stamp before this one
pub record AreBefore (page : Pages) (stat : Stamps) (next : Stamp) : Type 0 where
  pub pages : (key : PageKey) (p : Page) → IsPageKey key → page key ≡ Some p → Before p.stamp next
  pub stats : (folder : Segments) (t : Stamp) → IsStampFolder folder → stat folder ≡ Some t → Before t next

-- each head has a stamp before this one, also one whose body isn't there or doesn't fit
abbrev pub AreHeadsBefore : (PageKey → Option HeadNote) → Stamp → Type 0
AreHeadsBefore head next = (key : PageKey) (h : HeadNote) → IsPageKey key → head key ≡ Some h → Before h.stamp next

-- ---- flights

-- What is so of a flight that is for a page: it is voided exactly where it isn't clear, and while it isn't voided no .stat file outdates it.
pub record IsKeyedFlight (farm : Farm) (log : List LogEntry) (stat : Stamps) (flight : Flight) (key : PageKey) : Type 0 where
  pub page : IsPageKey key
  pub auto_is : flight.auto ≡ is_auto farm key
  pub clear : flight.voided ≡ false → IsClear farm log flight.number key
  pub fresh : flight.voided ≡ false → IsFresh (is_auto farm key) (stat_for farm stat key) flight.stamp
  pub voided : flight.voided ≡ true → IsClear farm log flight.number key → ⊥

-- A flight in the air: it has a number up to that of the last one asked, and its stamp was drawn.
pub record IsLogFlight (farm : Farm) (log : List LogEntry) (stat : Stamps) (asked : ℕ) (next : Stamp) (flight : Flight) : Type 0 where
  pub below : flight.number ≤ asked
  pub drawn : Before flight.stamp next
  pub in_air : InAir log flight.number flight.key
  pub keyed : (key : PageKey) → flight.key ≡ Some key → IsKeyedFlight farm log stat flight key

-- no flight has the number
abbrev pub IsAbsent : FlightId → List Flight → Type 0
IsAbsent number [] = Unit {0}
IsAbsent number (flight ∷ flights) = (flight.number ≢ number) × IsAbsent number flights

-- each flight is in the air, with a number of its own
abbrev pub AreLogFlights : Farm → List LogEntry → Stamps → ℕ → Stamp → List Flight → Type 0
AreLogFlights farm log stat asked next [] = Unit {0}
AreLogFlights farm log stat asked next (flight ∷ flights) = IsLogFlight farm log stat asked next flight × IsAbsent flight.number flights × AreLogFlights farm log stat asked next flights

-- a flight with this number is among them, for this page or for none
abbrev pub HasFlight : List Flight → FlightId → Option PageKey → Type 0
HasFlight [] number key = ⊥
HasFlight (flight ∷ flights) number key = ((flight.number ≡ number) × (flight.key ≡ key)) ⊎ HasFlight flights number key

-- The flights are those in the air: each is, each that is is there, and their numbers rise.
pub record HoldsFlights (farm : Farm) (log : List LogEntry) (stat : Stamps) (asked : ℕ) (next : Stamp) (flights : List Flight) : Type 0 where
  pub each : AreLogFlights farm log stat asked next flights
  pub all : (number : FlightId) (key : Option PageKey) → InAir log number key → HasFlight flights number key
  pub rising : AreRising 0 flights asked

-- ---- flushes

-- An unfinished flush: the log has it so, and the pages that it covers are older than it.
pub record IsLogFlush (farm : Farm) (page : Pages) (log : List LogEntry) (begun : ℕ) (next : Stamp) (p : Pending) : Type 0 where
  pub below : p.number ≤ begun
  pub level_is : p.purge.level ≡ farm.level
  pub drawn : Before p.purge.stamp next
  pub unfinished : Unfinished log p.number p.purge.inv
  pub older : (key : PageKey) (q : Page) → IsPageKey key → page key ≡ Some q → Covers farm p.purge.inv key → Before q.stamp p.purge.stamp

-- those behind it in the queue are younger, and have made no slice
abbrev pub AreLater : Pending → List Pending → Type 0
AreLater p [] = Unit {0}
AreLater p (q ∷ qs) = (p.number < q.number) × Before p.purge.stamp q.purge.stamp × (q.purge.place ≡ None) × AreLater p qs

-- each of the queue is unfinished, the oldest first
abbrev pub AreLogFlushes : Farm → Pages → List LogEntry → ℕ → Stamp → List Pending → Type 0
AreLogFlushes farm page log begun next [] = Unit {0}
AreLogFlushes farm page log begun next (p ∷ ps) = IsLogFlush farm page log begun next p × AreLater p ps × AreLogFlushes farm page log begun next ps

-- The oldest flush: no folder has a newer stamp, and it is as far as it says.
pub record IsAtWork (page : Pages) (stat : Stamps) (p : Purge) : Type 0 where
  pub newest : (folder : Segments) (t : Stamp) → IsStampFolder folder → stat folder ≡ Some t → (t ≡ p.stamp) ⊎ Before t p.stamp
  pub progress : Progress p page stat

-- the head of the queue is at work
abbrev pub HasHeadAtWork : Pages → Stamps → List Pending → Type 0
HasHeadAtWork page stat [] = Unit {0}
HasHeadAtWork page stat (p ∷ ps) = IsAtWork page stat p.purge

-- a flush with this number and this invalidation is among them
abbrev pub HasFlush : List Pending → FlushId → Invalidation → Type 0
HasFlush [] number inv = ⊥
HasFlush (p ∷ ps) number inv = ((p.number ≡ number) × (p.purge.inv ≡ inv)) ⊎ HasFlush ps number inv

-- The queue is the unfinished flushes, the oldest first, and that one alone is at work.
pub record HoldsFlushes (farm : Farm) (page : Pages) (stat : Stamps) (log : List LogEntry) (begun : ℕ) (next : Stamp) (queue : List Pending) : Type 0 where
  pub each : AreLogFlushes farm page log begun next queue
  pub all : (number : FlushId) (inv : Invalidation) → Unfinished log number inv → HasFlush queue number inv
  pub head : HasHeadAtWork page stat queue

-- ---- epochs and counts

-- The number that the files hold is that of the session's last epoch, or rose by restarts that went down since. It is above none that an
-- epoch was.
pub record HoldsEpoch (held epoch : ℕ) (log : List LogEntry) : Type 0 where
  pub first : 0 < epoch
  pub last : last_epoch log ≡ epoch
  pub current : epoch ≤ held
  pub risen : held ≤ epoch + downs_since log
  pub above : IsAboveAll (held + 1) log

-- as many were asked, begun and drawn as the log says
pub record HoldsCounts (asked begun drawn : ℕ) (log : List LogEntry) : Type 0 where
  pub flights : asked ≡ flights_asked log
  pub flushes : begun ≡ flushes_begun log
  pub stamps : drawn ≡ stamps_drawn log

-- ---- the whole

-- the parts of a core and of its files stand for the log
pub record CoreStands (farm : Farm) (page : Pages) (stat : Stamps) (held : ℕ) (flights : List Flight) (queue : List Pending) (asked begun epoch drawn : ℕ) (log : List LogEntry) : Type 0 where
  pub holds : HoldsPages farm page stat log
  pub before : AreBefore page stat (stamp epoch drawn)
  pub epochs : HoldsEpoch held epoch log
  pub counts : HoldsCounts asked begun drawn log
  pub flying : HoldsFlights farm log stat asked (stamp epoch drawn) flights
  pub flushing : HoldsFlushes farm page stat log begun (stamp epoch drawn) queue
  pub tied : TiesStamps farm page stat flights queue log
