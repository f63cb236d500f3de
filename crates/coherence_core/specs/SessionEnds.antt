-- Where a session may end, and where one may begin.
use Rattle.std.specs.Prelude.{List, ◌++◌, [], ◌≡◌, IsTrue, ℕ, ◌∷◌, ◌≤◌, Ok}
use Rattle.sp_outside.specs.Files.{Files, file_at}
use Rattle.any_config.specs.declared.farm.Farm.{Farm}
use Rattle.cache_log.specs.Entries.{LogEntry, Session}
use Rattle.cache_log.specs.Rules.{AllAllowed, CallConditions, IsLegal}
use Rattle.docroot_format.specs.Names.{epoch_name}
use Rattle.cache_files.specs.Epochs.{next_epoch}
use Rattle.coherence_core.specs.Closings.{IsClosing}
use Rattle.coherence_core.specs.Cores.{flushes_of, StandsOver}
use Rattle.coherence_core.specs.Holds.{HoldsClosed, Holds, files_counted}
use Rattle.coherence_core.specs.Openings.{IsCoreOpened}
use Rattle.coherence_core.specs.Sessions.{closing_entries, failed_entries}
use Rattle.coherence_core.specs.declared.core_state.Core.{Core}

-- the files hold the log once what the core leaves to be closed is closed
abbrev pub IsHeldClosed : Files → Core → List LogEntry → Type 0
IsHeldClosed files core log = HoldsClosed core.farm files (closing_entries core ++ log)

-- with nothing in the air, they hold it once the unfinished flushes are cut off
abbrev pub IsHeldIfLanded : Files → Core → List LogEntry → Type 0
IsHeldIfLanded files core log = core.flights ≡ [] → HoldsClosed core.farm files (failed_entries (flushes_of core) ++ log)

-- a restart allows what the core leaves to be closed
abbrev pub RestartsAllowClosing : Type 0
RestartsAllowClosing = (found : ℕ) (files : Files) (core : Core) (log : List LogEntry) (under : CallConditions) → StandsOver found files core log → IsTrue under.restarts
    → AllAllowed core.farm under (closing_entries core) log

-- a restart allows what closes a log
abbrev pub AllowsClosing : Farm → List LogEntry → List LogEntry → CallConditions → Type 0
AllowsClosing farm log entries under = IsClosing log entries → IsTrue under.restarts → AllAllowed farm under entries log

-- files that hold a log hold it closed
abbrev pub HoldsOnceClosed : Farm → Files → List LogEntry → List LogEntry → Type 0
HoldsOnceClosed farm files log entries = Holds farm files log → IsClosing log entries → HoldsClosed farm files (entries ++ log)

-- the core and the files stand for the log of a session that was just opened
abbrev pub StandsForSession : ℕ → Files → Core → Type 0
StandsForSession found files core = StandsOver found files core (Session core.epoch ∷ [])

-- a core stays one that was just opened as files go, but for that of the number
abbrev pub CoresStayOpenedAsFilesGo : Type 0
CoresStayOpenedAsFilesGo = (found : ℕ) (files after : Files) (core : Core) → IsCoreOpened found files core → file_at after epoch_name ≡ file_at files epoch_name
    → files_counted after ≤ files_counted files → IsCoreOpened found after core

-- a session goes on from a legal log that the files hold, closed, with the number after the one that they hold
abbrev pub SessionsGoOn : Type 0
SessionsGoOn = (farm : Farm) (files : Files) (log : List LogEntry) (epoch : ℕ) → HoldsClosed farm files log → IsLegal farm log → next_epoch files ≡ Ok epoch
    → IsLegal farm (Session epoch ∷ log)
