-- Which files hold which log: the one tie between the files of the docroot and what the log says (RFC 9111, section 4; Adobe Dispatcher
-- manual, "Invalidating Files by Folder Level").
use Rattle.std.specs.Prelude.{◌≡◌, ◌+◌, ℕ, List, Some, IsSome, IsTrue, length}
use Rattle.std.specs.FinMap.{keys}
use Rattle.sp_base.specs.Texts.{Text}
use Rattle.sp_outside.specs.Files.{Files, file_at}
use Rattle.any_config.specs.declared.farm.Farm.{Farm}
use Rattle.docroot_format.specs.Names.{is_stat_file}
use Rattle.docroot_format.specs.Readings.{stat_of}
use Rattle.cache_files.specs.Epochs.{after_epoch, epoch_held, next_epoch}
use Rattle.cache_files.specs.HeldStamps.{HasNoLaterStamp}
use Rattle.cache_files.specs.Pages.{page_at}
use Rattle.stat_files.specs.Stamps.{stamp_at}
use Rattle.cache_log.specs.Entries.{LogEntry}
use Rattle.cache_log.specs.Rules.{IsAboveAll, IsIdle}
use Rattle.coherence_core.specs.Stands.{HoldsPages}

-- the number of files
abbrev pub files_counted : Files → ℕ
files_counted files = length (keys files)

-- the number of the session is of its form, or there is none yet, so that the next session's is one more
abbrev pub IsNumbered : Files → Type 0
IsNumbered files = next_epoch files ≡ after_epoch (Some (epoch_held files))

-- each .stat file is of its form
abbrev pub AreStatsFormed : Files → Type 0
AreStatsFormed files = (name bytes : Text) → IsTrue (is_stat_file name) → file_at files name ≡ Some bytes → IsSome (stat_of bytes)

-- each .stat file is as it was
abbrev pub KeepsStatFiles : Files → Files → Type 0
KeepsStatFiles old new = (name : Text) → IsTrue (is_stat_file name) → file_at new name ≡ file_at old name

-- The files hold the log: their pages do, no epoch of the log and no stamp is after the number of the session, which is of its form, and so is
-- each .stat file.
pub record Holds (farm : Farm) (files : Files) (log : List LogEntry) : Type 0 where
  pub pages : HoldsPages farm (page_at files) (stamp_at files) log
  pub numbered : IsNumbered files
  pub above : IsAboveAll (epoch_held files + 1) log
  pub order : HasNoLaterStamp files
  pub formed : AreStatsFormed files

-- The files hold a log that is closed, so that a session may go on with it.
pub record HoldsClosed (farm : Farm) (files : Files) (log : List LogEntry) : Type 0 where
  pub holds : Holds farm files log
  pub idle : IsIdle log
