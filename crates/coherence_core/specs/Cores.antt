-- What a core and the files of a disk stand for, and how a call of the core extends it.
use Rattle.std.specs.Prelude.{◌≡◌, ◌≤◌, ◌+◌, ◌++◌, ℕ, Bool, false, not, List, [], ◌∷◌, Option, Some, None, map}
use Rattle.sp_outside.specs.Files.{Files}
use Rattle.any_config.specs.declared.farm.Farm.{Farm}
use Rattle.cover_rules.specs.declared.page.PageKey.{PageKey}
use Rattle.cache_files.specs.Epochs.{epoch_held}
use Rattle.cache_files.specs.HeldStamps.{HasNoLaterStamp}
use Rattle.cache_files.specs.Pages.{head_at, page_at}
use Rattle.stat_files.specs.Stamps.{stamp_at}
use Rattle.flights.specs.declared.flight.Flight.{Flight}
use Rattle.flights.specs.Flights.{AreRising}
use Rattle.cache_ids.specs.Ids.{FlightId, FlushId}
use Rattle.cache_log.specs.Entries.{LogEntry, is_up}
use Rattle.cache_log.specs.Rules.{AllAllowed, CallConditions}
use Rattle.coherence_core.specs.Bounds.{BoundsSlices}
use Rattle.coherence_core.specs.Holds.{AreStatsFormed, IsNumbered}
use Rattle.coherence_core.specs.Notes.{KnowsFiles}
use Rattle.coherence_core.specs.Stands.{AreHeadsBefore, CoreStands, stamp}
use Rattle.coherence_core.specs.declared.pending.Pending.{Pending}
use Rattle.coherence_core.specs.declared.core_state.Core.{Core}
use Rattle.cache_log.specs.Limits.{most_stamps}

-- ---- what a core stands for

-- how many stamps the core has drawn: one for each flight and one for each flush
abbrev pub drawn_of : Core → ℕ
drawn_of core = core.asked + core.begun

-- The core and the files stand for this log, in a session that found this many files. Each .stat file is of its form, each head in the files has a
-- stamp before the one that is drawn next, and what the core has noted of the files is so.
pub record StandsOver (found : ℕ) (files : Files) (core : Core) (log : List LogEntry) : Type 0 where
  pub stands : CoreStands core.farm (page_at files) (stamp_at files) (epoch_held files) core.flights core.queue.items core.asked core.begun core.epoch (drawn_of core) log
  pub numbered : IsNumbered files
  pub order : HasNoLaterStamp files
  pub formed : AreStatsFormed files
  pub heads : AreHeadsBefore (head_at files) (stamp core.epoch (drawn_of core))
  pub down_is : core.down ≡ not (is_up log)
  pub few : drawn_of core ≤ most_stamps
  pub slices : BoundsSlices core.farm found files core.queue.items log
  pub knows : KnowsFiles files core

-- the same of a disk, where it tells its files
abbrev pub CoreStandsFor : ℕ → Option Files → Core → List LogEntry → Type 0
CoreStandsFor found None core log = ⊥
CoreStandsFor found (Some files) core log = StandsOver found files core log

-- For each log that was stood for, the log with these entries, the newest first, is stood for, and they are allowed in a call under these
-- conditions.
pub record ExtendsLogs (farm : Farm) (Old New : List LogEntry → Type 0) (under : CallConditions) (entries : List LogEntry) : Type 0 where
  pub allowed : (log : List LogEntry) → Old log → AllAllowed farm under entries log
  pub stands : (log : List LogEntry) → Old log → New (entries ++ log)

-- the same of a core and a disk before and after a call, in each session
abbrev pub ExtendsCore : Option Files → Core → Option Files → Core → CallConditions → List LogEntry → Type 0
ExtendsCore told core after next under entries = (found : ℕ) → ExtendsLogs core.farm (CoreStandsFor found told core) (CoreStandsFor found after next) under entries

-- ---- conditions

-- the conditions of a call that was no restart's: whether the disk failed, and whether memory ran out
abbrev pub conditions_of_call : Bool → Bool → CallConditions
conditions_of_call disk_failed out_of_memory = record { disk_failed = disk_failed; out_of_memory = out_of_memory; restarts = false }

-- ---- what callers see of a core beside its log

-- what the dispatcher does for the site
abbrev pub core_farm : Core → Farm
core_farm core = core.farm

-- the flights in the air, the oldest first
abbrev pub flights_of : Core → List Flight
flights_of core = core.flights

-- the numbers of flights, and the page of each or none
abbrev pub flight_labels : List Flight → List (FlightId × Option PageKey)
flight_labels flights = map (λ (flight : Flight). (flight.number, flight.key)) flights

-- the numbers of the flights rise up to that of the last one asked
abbrev pub FlightsRise : Core → Type 0
FlightsRise core = AreRising 0 core.flights core.asked

-- the numbers of the flushes of a queue
abbrev pub flush_numbers : List Pending → List FlushId
flush_numbers [] = []
flush_numbers (p ∷ ps) = p.number ∷ flush_numbers ps

-- the numbers of the unfinished flushes, the oldest first
abbrev pub flushes_of : Core → List FlushId
flushes_of core = flush_numbers core.queue.items

-- the farm, and whether the cache is down, are as they were
pub record KeepsFarm (old new : Core) : Type 0 where
  pub farm : new.farm ≡ old.farm
  pub down : new.down ≡ old.down
