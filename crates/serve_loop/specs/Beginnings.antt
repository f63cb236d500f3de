-- How sessions begin, and what they leave.
use Rattle.std.specs.Prelude.{List, Ok, ℕ, ◌∷◌, ◌≡◌, ◌≢◌}
use Rattle.sp_outside.specs.Files.{Files}
use Rattle.cache_log.specs.Entries.{LogEntry, Session}
use Rattle.cache_log.specs.Rules.{IsLegal}
use Rattle.cache_files.specs.Epochs.{next_epoch}
use Rattle.coherence_core.specs.Holds.{HoldsClosed}
use Rattle.run_events.specs.Events.{state_after_events}
use Rattle.run_events.specs.States.{Start, start_of}
use Rattle.run_laws.specs.Logs.{IsBeginning}
use Rattle.serve_loop.specs.Served.{DiskReport, IsServed, LeavesLegalLog, WorldReport}
use Rattle.serve_loop.specs.Turns.{turn_events}
use Rattle.serve_loop.specs.declared.serving.ServeEnd.TheVariants.{NoMemory}
use Rattle.serve_loop.specs.declared.serving.ServeEnd.{ServeEnd}

-- over files that hold a closed log, which is legal, a session begins with the number after the one that they hold
abbrev pub SessionsBeginOverFiles : Type 0
SessionsBeginOverFiles = (s : Start) (files : Files) (log : List LogEntry) (epoch : ℕ) → HoldsClosed s.farm files log → IsLegal s.farm log → next_epoch files ≡ Ok epoch
    → s.log ≡ Session epoch ∷ log → IsBeginning s

-- a session that was served from a legal log leaves one, unless memory ran out
abbrev pub SessionsLeaveLegalLogs : Type 0
SessionsLeaveLegalLogs = (s : Start) (limit : ℕ) (end : ServeEnd) (disk : DiskReport) (world : WorldReport) → IsBeginning s
    → (served : IsServed (start_of s) limit end disk world) → end ≢ NoMemory
    → LeavesLegalLog s.farm disk.new (state_after_events (start_of s) (turn_events served.turns))
