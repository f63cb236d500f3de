-- What a session leaves of the log of a run, wherever it ends.
use Rattle.std.specs.Prelude.{◌++◌, List, map, ◌∷◌, ℕ, IsTrue, Option, Some}
use Rattle.cache_log.specs.Entries.{LogEntry, Session}
use Rattle.cache_log.specs.Rules.{AllAllowed, CallConditions}
use Rattle.coherence_core.specs.Sessions.{failed_entries, lost_entries}
use Rattle.coherence_core.specs.Closings.{IsClosing}
use Rattle.coherence_core.specs.Holds.{Holds, files_counted}
use Rattle.run_events.specs.declared.flying.Flying.{Flying}
use Rattle.run_events.specs.declared.flying.Flushing.{Flushing}
use Rattle.run_events.specs.States.{RunState, start_of}
use Rattle.run_events.specs.Publishers.{Publishing}
use Rattle.sp_outside.specs.Files.{Files}
use Rattle.resource_tree.specs.Content.{Content}
use Rattle.any_config.specs.declared.farm.Farm.{Farm}
use Rattle.front.specs.declared.board.Board.{Board}
use Rattle.front.specs.Boards.{BoardAt, at_disk}
use Rattle.front.specs.Fronts.{BeginsRun, FrontStandsFor, epoch_of_board}

-- each unfinished flush of this state is cut off
abbrev pub cut_off_entries : RunState → List LogEntry
cut_off_entries w = failed_entries (map (λ (flush : Flushing). flush.number) w.flushes)

-- What closes the log of this state: each flight in the air is lost, and then each unfinished flush is cut off.
abbrev pub closing_entries_of : RunState → List LogEntry
closing_entries_of w = cut_off_entries w ++ lost_entries (map (λ (flying : Flying). flying.number) w.flights)

-- the log, closed
abbrev pub closed_log : RunState → List LogEntry
closed_log w = closing_entries_of w ++ w.log

-- this is so of the files of a front and of each state that it stands for
abbrev pub OfFrontFilesAndStates : (Files → RunState → Type 0) → Type 0
OfFrontFilesAndStates IsSo = (publishing : Publishing) (content : Content) (board : Board) (files : Files) (faults : ℕ) (w : RunState) → FrontStandsFor publishing content (at_disk board (Some files) faults) w → IsSo files w

-- of each state that it stands for a restart allows what closes the log
abbrev pub RestartsCloseLogs : Type 0
RestartsCloseLogs = (publishing : Publishing) (content : Content) (board : Board) (files : Files) (faults : ℕ) (w : RunState) (under : CallConditions)
    → FrontStandsFor publishing content (at_disk board (Some files) faults) w → IsTrue under.restarts → AllAllowed w.farm under (closing_entries_of w) w.log

-- a front stands for the same states however often its disk is said to have failed
abbrev pub StandsWhateverTheCount : Type 0
StandsWhateverTheCount = (publishing : Publishing) (content : Content) (board : Board) (files : Option Files) (before after : ℕ) (w : RunState)
    → FrontStandsFor publishing content (at_disk board files before) w → FrontStandsFor publishing content (at_disk board files after) w

-- A front that begins a session over files begins it over each log that they hold, with what closes that.
abbrev pub BeginsOverOpenLogs : Type 0
BeginsOverOpenLogs = (publishing : Publishing) (content : Content) (farm : Farm) (files : Files) (b : BoardAt) (now : Content) → BeginsRun publishing content farm (Some files) b now
    → (log entries : List LogEntry) → Holds farm files log → IsClosing log entries
    → FrontStandsFor publishing now b (start_of (record { publishing = publishing; farm = farm; content = content; log = Session (epoch_of_board b) ∷ (entries ++ log); found = files_counted files }))
