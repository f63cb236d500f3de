-- What a restart makes of the cache and the connections. (Of the theorem's reader this file is no concern.)
use Rattle.std.specs.Prelude.{◌≡◌, ◌++◌, ℕ, true, false, List, Option, None, Result, Ok, Err, IsTrue, is_some, map}
use Rattle.std.specs.BTreeMap.{BTreeMap, get, keys}
use Rattle.std.specs.Ordering.{nat_cmp}
use Rattle.sp_outside.specs.Files.{Files}
use Rattle.cache_files.specs.declared.epoch.OpenFault.{OpenFault}
use Rattle.cache_files.specs.declared.epoch.OpenFault.TheVariants as open_fault
use Rattle.connections.specs.Ids.{ConnectionId}
use Rattle.run_events.specs.declared.flying.Flying.{Flying}
use Rattle.run_events.specs.declared.flying.Flushing.{Flushing}
use Rattle.run_events.specs.declared.note.Failure.TheVariants.{Restart as cut_off}
use Rattle.run_events.specs.declared.note.Note.{Note}
use Rattle.run_events.specs.declared.note.Note.TheVariants.{Down, Failed, Lost, Up}
use Rattle.run_events.specs.Causes.{ShowsOutOfMemory}
use Rattle.run_events.specs.Moves.{state_after_note, state_after_notes}
use Rattle.run_events.specs.Restarts.{EndsRestart}
use Rattle.run_events.specs.States.{AreNumbersRising, RunState, is_among}
use Rattle.front.specs.Caches.{Behind, BehindStandsFor, CacheParts, behind, only_disk}
use Rattle.front.specs.declared.connection.Connection.{Connection as KeptConnection}
use Rattle.front.specs.declared.restarts.Reopened.{Reopened}
use Rattle.sp_outside.specs.Causes.{IsDiskFailure}

-- each of these flights is lost
abbrev pub lost_notes : List Flying → List Note
lost_notes flights = map (λ (flying : Flying). Lost flying.number) flights

-- each of these flushes is cut off
abbrev pub failed_notes : List Flushing → List Note
failed_notes flushes = map (λ (flush : Flushing). Failed flush.number cut_off) flushes

-- no connection is open, and no slice is due
pub record IsShut (w : RunState) : Type 0 where
  pub connections : (c : ConnectionId) → w.connection c ≡ None
  pub count : w.connection_count ≡ 0
  pub slicing_is : w.slicing ≡ None

-- where no connection is open, what is behind them stands for the state in which each flight is lost
abbrev pub LosesFlights : Behind → Behind → Type 0
LosesFlights old new = (w : RunState) → BehindStandsFor old w → IsShut w → BehindStandsFor new (state_after_notes w (lost_notes old.cache.flying)) × IsShut (state_after_notes w (lost_notes old.cache.flying))

-- the oldest flights are lost, and the notes say so; the flushes are as they were
pub record HasLost (old new : CacheParts) (before after : List Note) : Type 0 where
  pub lost : List Flying
  pub flying_is : old.flying ≡ lost ++ new.flying
  pub notes_are : after ≡ before ++ lost_notes lost
  pub flushes_are : new.flushes ≡ old.flushes
  pub stands : (files : Option Files) (faults : ℕ) (w : RunState) → BehindStandsFor (behind old files faults) w → IsShut w → BehindStandsFor (behind new files faults) (state_after_notes w (lost_notes lost)) × IsShut (state_after_notes w (lost_notes lost))

-- The flushes are cut off, and the cache comes up again or is down: it stands for the state that its note leaves, which is allowed.
pub record IsReopened (old new : Behind) (reopened : Reopened) : Type 0 where
  pub stands : (w : RunState) → BehindStandsFor old w → IsShut w → BehindStandsFor new (state_after_note (state_after_notes w (failed_notes old.cache.flushes)) reopened.note)
  pub ends : (w : RunState) → BehindStandsFor old w → IsShut w → EndsRestart (state_after_notes w (failed_notes old.cache.flushes)) reopened.conditions reopened.note
  pub disk : IsDiskFailure old.faults new.faults reopened.conditions.disk_failed
  pub shows : (w : RunState) → IsTrue reopened.conditions.out_of_memory → ShowsOutOfMemory w reopened.note

-- how a restart ended whose opening answered this
abbrev pub reopened_by : Result ℕ OpenFault → Reopened
reopened_by (Ok epoch) = record { note = Up epoch; conditions = only_disk false }
reopened_by (Err open_fault.Disk) = record { note = Down; conditions = only_disk true }
reopened_by (Err open_fault.NoMemory) = record { note = Down; conditions = record { disk_failed = false; out_of_memory = true } }
reopened_by (Err open_fault.Foreign) = record { note = Down; conditions = only_disk false }
reopened_by (Err open_fault.EpochEnd) = record { note = Down; conditions = only_disk false }

-- these are the numbers of the connections in the map, in their order
pub record AreKeys (open_connections : BTreeMap ConnectionId KeptConnection) : Type 0 where
  pub rising : AreNumbersRising (keys open_connections)
  pub each : (c : ConnectionId) → is_some (get nat_cmp open_connections c) ≡ is_among c (keys open_connections)
