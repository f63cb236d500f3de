-- The stamps of flights and of flushes by the log, and what has them. A stamp is drawn for each flight as it is asked and for each flush as it
-- begins, so the log tells which one it is.
use Rattle.std.specs.Prelude.{◌≡◌, ◌≢◌, ◌⊎◌, ◌≤◌, ℕ, List, [], ◌∷◌, Some, Contains}
use Rattle.std.specs.List.{AllByRecursion}
use Rattle.sp_base.specs.Texts.{Segments}
use Rattle.sp_base.specs.declared.answer.Answer.{Answer}
use Rattle.any_config.specs.declared.farm.Farm.{Farm}
use Rattle.cover_rules.specs.Pages.{IsPageKey}
use Rattle.cover_rules.specs.declared.page.PageKey.{PageKey}
use Rattle.cover_rules.specs.declared.stamp.Stamp.{Stamp}
use Rattle.cover_rules.specs.declared.invalidation.Invalidation.{Invalidation}
use Rattle.cover_rules.specs.Coverage.{touched_of}
use Rattle.dispatch_rules.specs.Caching.{is_auto}
use Rattle.cache_files.specs.declared.page.Page.{Page}
use Rattle.docroot_changes.specs.Changes.{IsStampFolder}
use Rattle.flights.specs.declared.flight.Flight.{Flight}
use Rattle.cache_ids.specs.Ids.{FlightId, FlushId}
use Rattle.cache_log.specs.Entries.{LogEntry, Asked, Begun, Done, Ended, Kept, Landed, Session, Unkept, last_epoch, stamps_drawn}
use Rattle.cache_log.specs.Hits.{NoneDoneSince, SparesPage, stored}
use Rattle.coherence_core.specs.Served.{IsFresh, Pages, Stamps, stat_for}
use Rattle.coherence_core.specs.declared.pending.Pending.{Pending}

-- the epoch with which the session began
abbrev pub first_epoch : List LogEntry → ℕ
first_epoch [] = 0
first_epoch (Session epoch ∷ log) = epoch
first_epoch (_ ∷ log) = first_epoch log

-- the stamp that is drawn next: of the last epoch, with as many as were drawn in the session
abbrev pub stamp_after : List LogEntry → Stamp
stamp_after log = record { epoch = last_epoch log; count = stamps_drawn log }

-- each stamp that was drawn, for a flight as it was asked or for a flush as it began, in this session or before it; the last one first
abbrev pub drawn_stamps : List LogEntry → List Stamp
drawn_stamps [] = []
drawn_stamps (Asked number key ∷ log) = stamp_after log ∷ drawn_stamps log
drawn_stamps (Begun number inv ∷ log) = stamp_after log ∷ drawn_stamps log
drawn_stamps (_ ∷ log) = drawn_stamps log

-- the flight was asked in this session, and this stamp was drawn for it
abbrev pub IsFlightStamp : List LogEntry → FlightId → Stamp → Type 0
IsFlightStamp [] flight stamp = ⊥
IsFlightStamp (Asked number key ∷ log) flight stamp = ((number ≡ flight) × (stamp ≡ stamp_after log)) ⊎ ((number ≢ flight) × IsFlightStamp log flight stamp)
IsFlightStamp (Session epoch ∷ log) flight stamp = ⊥
IsFlightStamp (_ ∷ log) flight stamp = IsFlightStamp log flight stamp

-- the flush began in this session with this invalidation, and this stamp was drawn for it
abbrev pub IsFlushStamp : List LogEntry → FlushId → Invalidation → Stamp → Type 0
IsFlushStamp [] flush inv stamp = ⊥
IsFlushStamp (Begun number begun ∷ log) flush inv stamp = ((number ≡ flush) × (begun ≡ inv) × (stamp ≡ stamp_after log)) ⊎ IsFlushStamp log flush inv stamp
IsFlushStamp (Session epoch ∷ log) flush inv stamp = ⊥
IsFlushStamp (_ ∷ log) flush inv stamp = IsFlushStamp log flush inv stamp

-- this stamp was drawn in this session, for a flight or for a flush
abbrev pub IsStampOfSession : List LogEntry → Stamp → Type 0
IsStampOfSession log stamp = ((flight : FlightId) × IsFlightStamp log flight stamp) ⊎ ((flush : FlushId) × (inv : Invalidation) × IsFlushStamp log flush inv stamp)

-- A hit on the page may be answered so by a flight of this session that has this stamp: it landed and was kept or unkept with this answer, no
-- landing of the page was kept since, and no flush that covers the page has ended done since it was asked.
abbrev pub MayHitOfStamp : Farm → List LogEntry → PageKey → Answer → Stamp → Type 0
MayHitOfStamp farm [] key answer stamp = ⊥
MayHitOfStamp farm (Landed number landed given Kept ∷ log) key answer stamp = ((landed ≡ Some key) × (stored given ≡ answer) × NoneDoneSince farm log number key × IsFlightStamp log number stamp) ⊎ ((landed ≢ Some key) × MayHitOfStamp farm log key answer stamp)
MayHitOfStamp farm (Landed number landed given Unkept ∷ log) key answer stamp = ((landed ≡ Some key) × (stored given ≡ answer) × NoneDoneSince farm log number key × IsFlightStamp log number stamp) ⊎ MayHitOfStamp farm log key answer stamp
MayHitOfStamp farm (Ended number Done ∷ log) key answer stamp = SparesPage farm log number key × MayHitOfStamp farm log key answer stamp
MayHitOfStamp farm (Session epoch ∷ log) key answer stamp = ⊥
MayHitOfStamp farm (_ ∷ log) key answer stamp = MayHitOfStamp farm log key answer stamp

-- this is the stamp of a flush of this session that touches the folder
abbrev pub IsStampOfTouch : Farm → List LogEntry → Segments → Stamp → Type 0
IsStampOfTouch farm log folder stamp = (flush : FlushId) × (inv : Invalidation) × IsFlushStamp log flush inv stamp × Contains (touched_of farm.level inv) folder

-- What has a stamp whose epoch isn't below the session's first has it by the log: a page that is there and not outdated has that of its flight,
-- and a .stat file that of a flush which touches its folder. So have the flights in the air and the unfinished flushes, which bring more.
pub record TiesStamps (farm : Farm) (page : Pages) (stat : Stamps) (flights : List Flight) (queue : List Pending) (log : List LogEntry) : Type 0 where
  pub pages : (key : PageKey) (p : Page) → IsPageKey key → page key ≡ Some p → IsFresh (is_auto farm key) (stat_for farm stat key) p.stamp → first_epoch log ≤ p.stamp.epoch → MayHitOfStamp farm log key p.answer p.stamp
  pub stats : (folder : Segments) (t : Stamp) → IsStampFolder folder → stat folder ≡ Some t → first_epoch log ≤ t.epoch → IsStampOfTouch farm log folder t
  pub flying : AllByRecursion (λ (f : Flight). IsFlightStamp log f.number f.stamp) flights
  pub flushing : AllByRecursion (λ (p : Pending). IsFlushStamp log p.number p.purge.inv p.purge.stamp) queue
