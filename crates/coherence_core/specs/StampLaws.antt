-- What the stamps of files, flights and flushes are, and what they are before.
use Rattle.std.specs.Prelude.{List, Some, ℕ, ◌≡◌, ◌≤◌, Contains, AllPairs, ◌∷◌, ◌++◌}
use Rattle.sp_base.specs.Texts.{Segments}
use Rattle.sp_base.specs.declared.answer.Answer.{Answer}
use Rattle.sp_outside.specs.Files.{Files}
use Rattle.any_config.specs.declared.farm.Farm.{Farm}
use Rattle.cover_rules.specs.Pages.{IsPageKey}
use Rattle.cover_rules.specs.declared.page.PageKey.{PageKey}
use Rattle.cover_rules.specs.declared.stamp.Stamp.{Stamp}
use Rattle.dispatch_rules.specs.Caching.{is_auto}
use Rattle.flights.specs.declared.flight.Flight.{Flight}
use Rattle.cache_log.specs.Entries.{LogEntry}
use Rattle.cache_log.specs.Hits.{MayHit}
use Rattle.cache_log.specs.Rules.{IsLegal}
use Rattle.stat_files.specs.Stamps.{stamp_at}
use Rattle.cache_files.specs.Pages.{page_at, head_at}
use Rattle.cache_files.specs.declared.head_note.HeadNote.{HeadNote}
use Rattle.cache_files.specs.declared.page.Page.{Page}
use Rattle.docroot_changes.specs.Changes.{IsStampFolder}
use Rattle.coherence_core.specs.Asking.{next_stamp}
use Rattle.coherence_core.specs.Cores.{StandsOver}
use Rattle.coherence_core.specs.Served.{IsFresh, stat_for, Before}
use Rattle.coherence_core.specs.StampTies.{MayHitOfStamp, first_epoch, IsStampOfTouch, drawn_stamps, stamp_after, IsStampOfSession}
use Rattle.coherence_core.specs.declared.core_state.Core.{Core}
use Rattle.coherence_core.specs.declared.pending.Pending.{Pending}

-- a page that isn't outdated, with a stamp of the session, has the stamp that was drawn as its flight was asked
abbrev pub FreshPagesHaveFlightStamps : Type 0
FreshPagesHaveFlightStamps = (found : ℕ) (files : Files) (core : Core) (log : List LogEntry) (key : PageKey) (page : Page) → StandsOver found files core log → IsPageKey key
    → page_at files key ≡ Some page → IsFresh (is_auto core.farm key) (stat_for core.farm (stamp_at files) key) page.stamp
    → first_epoch log ≤ page.stamp.epoch → MayHitOfStamp core.farm log key page.answer page.stamp

-- by the landing of that flight a hit on the page is permitted
abbrev pub MayHitIfOfStamp : Farm → List LogEntry → PageKey → Answer → Stamp → Type 0
MayHitIfOfStamp farm log key answer stamp = MayHitOfStamp farm log key answer stamp → MayHit farm log key answer

-- a .stat file with a stamp of the session has that of a flush that touches its folder
abbrev pub FoldersHaveTouchStamps : Type 0
FoldersHaveTouchStamps = (found : ℕ) (files : Files) (core : Core) (log : List LogEntry) (folder : Segments) (stamp : Stamp) → StandsOver found files core log
    → IsStampFolder folder → stamp_at files folder ≡ Some stamp → first_epoch log ≤ stamp.epoch → IsStampOfTouch core.farm log folder stamp

-- each head of a page in the files has a stamp before the one that is drawn next
abbrev pub HeadsAreBeforeNext : Type 0
HeadsAreBeforeNext = (found : ℕ) (files : Files) (core : Core) (log : List LogEntry) (key : PageKey) (head : HeadNote) → StandsOver found files core log → IsPageKey key
    → head_at files key ≡ Some head → Before head.stamp (next_stamp core)

-- so has each .stat file
abbrev pub FoldersAreBeforeNext : Type 0
FoldersAreBeforeNext = (found : ℕ) (files : Files) (core : Core) (log : List LogEntry) (folder : Segments) (stamp : Stamp) → StandsOver found files core log
    → IsStampFolder folder → stamp_at files folder ≡ Some stamp → Before stamp (next_stamp core)

-- so has each flight in the air
abbrev pub FlightsAreBeforeNext : Type 0
FlightsAreBeforeNext = (found : ℕ) (files : Files) (core : Core) (log : List LogEntry) (flight : Flight) → StandsOver found files core log → Contains core.flights flight
    → Before flight.stamp (next_stamp core)

-- so has each unfinished flush
abbrev pub FlushesAreBeforeNext : Type 0
FlushesAreBeforeNext = (found : ℕ) (files : Files) (core : Core) (log : List LogEntry) (flush : Pending) → StandsOver found files core log → Contains core.queue.items flush
    → Before flush.purge.stamp (next_stamp core)

-- and each stamp that a legal log drew is before it
abbrev pub DrawnAreBeforeNext : Type 0
DrawnAreBeforeNext = (found : ℕ) (files : Files) (core : Core) (log : List LogEntry) (stamp : Stamp) → StandsOver found files core log → IsLegal core.farm log
    → Contains (drawn_stamps log) stamp → Before stamp (next_stamp core)

-- of the stamps that a log drew, and of the one that is drawn next, each is after all before it
abbrev pub AreDrawnRising : List LogEntry → Type 0
AreDrawnRising log = AllPairs (λ later earlier. Before earlier later) (stamp_after log ∷ drawn_stamps log)

-- a session of the log drew the stamp at some time
abbrev pub WasDrawnInSession : List LogEntry → Stamp → Type 0
WasDrawnInSession log stamp = (since : List LogEntry) × (before : List LogEntry) × (log ≡ since ++ before) × IsStampOfSession before stamp
