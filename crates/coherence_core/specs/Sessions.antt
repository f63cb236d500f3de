-- What a restart adds to the log, and what a session begins with.
use Rattle.std.specs.Prelude.{◌≡◌, ◌++◌, ℕ, Bool, true, false, List, [], ◌∷◌, Option, Some, None, Result, Ok, Err}
use Rattle.sp_outside.specs.Files.{Files}
use Rattle.any_config.specs.declared.farm.Farm.{Farm}
use Rattle.cache_files.specs.declared.epoch.OpenFault.{OpenFault}
use Rattle.cache_files.specs.declared.epoch.OpenFault.TheVariants as open_fault
use Rattle.flights.specs.Flights.{numbers_of}
use Rattle.cache_ids.specs.Ids.{FlightId, FlushId}
use Rattle.cache_log.specs.Entries.{LogEntry, Ended, Failed, Lost, Up, Down as down_entry, Session}
use Rattle.cache_log.specs.Rules.{CallConditions}
use Rattle.coherence_core.specs.Holds.{Holds, HoldsClosed, files_counted}
use Rattle.coherence_core.specs.Cores.{CoreStandsFor, flushes_of, ExtendsCore, flush_numbers}
use Rattle.coherence_core.specs.declared.core_state.Core.{Core}
use Rattle.page_index.specs.Effects.{IsBare}

-- each of these flushes is cut off, the oldest first
abbrev pub failed_entries : List FlushId → List LogEntry
failed_entries [] = []
failed_entries (flush ∷ flushes) = failed_entries flushes ++ Ended flush Failed ∷ []

-- each of these flights is lost, the oldest first
abbrev pub lost_entries : List FlightId → List LogEntry
lost_entries [] = []
lost_entries (flight ∷ flights) = lost_entries flights ++ Lost flight ∷ []

-- What closes the log of a session that ends, wherever it does: each flight in the air is lost, and then each unfinished flush is cut off.
abbrev pub closing_entries : Core → List LogEntry
closing_entries core = failed_entries (flushes_of core) ++ lost_entries (numbers_of core.flights)

-- they are cut off, and the cache comes up with an epoch or goes down
abbrev pub restarted_entries : List FlushId → Result ℕ OpenFault → List LogEntry
restarted_entries flushes (Ok epoch) = Up epoch ∷ failed_entries flushes
restarted_entries flushes (Err fault) = down_entry ∷ failed_entries flushes

-- the disk failed in an opening
abbrev pub is_disk_failure : Result ℕ OpenFault → Bool
is_disk_failure (Err open_fault.Disk) = true
is_disk_failure _ = false

-- an opening found no memory
abbrev pub is_opening_out_of_memory : Result ℕ OpenFault → Bool
is_opening_out_of_memory (Err open_fault.NoMemory) = true
is_opening_out_of_memory _ = false

-- what a restart ran under
abbrev pub restarted_under : Result ℕ OpenFault → CallConditions
restarted_under opened = record { disk_failed = is_disk_failure opened; out_of_memory = is_opening_out_of_memory opened; restarts = true }

-- A session begins over files that hold a closed log: the core and the new files stand for that log and the session, which found as many files
-- as there were.
abbrev pub BeginsSession : Farm → Option Files → Option Files → Core → Type 0
BeginsSession farm None after core = Unit {0}
BeginsSession farm (Some files) after core = (log : List LogEntry) → HoldsClosed farm files log → CoreStandsFor (files_counted files) after core (Session core.epoch ∷ log)

-- a core of this epoch in which nothing was done yet, and nothing noted
pub record IsNewCore (farm : Farm) (epoch : ℕ) (core : Core) : Type 0 where
  pub farm_is : core.farm ≡ farm
  pub flights : core.flights ≡ []
  pub queue : core.queue.items ≡ []
  pub asked : core.asked ≡ 0
  pub begun : core.begun ≡ 0
  pub epoch_is : core.epoch ≡ epoch
  pub up : core.down ≡ false
  pub pages : IsBare core.pages

-- With each fresh core of the epoch a session begins.
abbrev pub OpensSession : Option Files → Option Files → ℕ → Type 0
OpensSession told after epoch = (farm : Farm) (core : Core) → IsNewCore farm epoch core → BeginsSession farm told after core

-- what log the files held they hold still
abbrev pub KeepsHolds : Farm → Files → Files → Type 0
KeepsHolds farm old new = (log : List LogEntry) → Holds farm old log → Holds farm new log

-- a core and a disk before and after a restart that ended so: the log has its entries
abbrev pub RestartsAs : Option Files → Core → Option Files → Core → Result ℕ OpenFault → Type 0
RestartsAs told core after next result = ExtendsCore told core after next (restarted_under result) (restarted_entries (flush_numbers core.queue.items) result)
