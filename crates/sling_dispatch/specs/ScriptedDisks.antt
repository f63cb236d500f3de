-- Scaffolding: the disk of a scenario, for the private functions of the run and for proofs alone.
use Rattle.std.specs.Prelude.{◌≡◌, ◌≢◌, ℕ, true, if◌then◌else◌}
use Rattle.run_laws.specs.Logs.{is_restart}
use Rattle.sp_outside.specs.Files.{Files}
use Rattle.run_events.specs.declared.step.Step.{Step}
use Rattle.sling_dispatch.specs.Runs.{Arming, Unarmed, OneFailure, UntilRestart}
use Rattle.sling_dispatch.specs.declared.scripted_disk.ScriptedDisk.{ScriptedDisk}
use Rattle.sling_dispatch.specs.declared.scripted_disk.ScriptedDisk.TheVariants.{Failing, Stopped}

-- its files
abbrev pub files_of_disk : ScriptedDisk → Files
files_of_disk (Failing d) = d.files
files_of_disk (Stopped d) = d.files

-- how it may fail
abbrev pub arming_of_disk : ScriptedDisk → Arming
arming_of_disk (Failing d) = if d.spent then Unarmed else OneFailure
arming_of_disk (Stopped d) = UntilRestart

-- no stop lasts, and a failure that was planned by itself stays
abbrev pub disk_gone : ScriptedDisk → ScriptedDisk
disk_gone (Failing d) = Failing d
disk_gone (Stopped d) = Failing (record { files = d.files; spent = true })

-- the disk in which an event of this step begins: a restart finds it running again
abbrev pub disk_in : ScriptedDisk → Step → ScriptedDisk
disk_in disk step = if is_restart step then disk_gone disk else disk

-- how many faults a disk has counted that may fail so, before an event
abbrev pub planned_count : Arming → ℕ
planned_count Unarmed = 1
planned_count OneFailure = 0
planned_count UntilRestart = 0

-- In an event, a disk that may fail so became one that may fail then so, and that has counted so many faults: one that is stopped stays
-- stopped, and another fails once at most.
abbrev pub LeavesCount : Arming → Arming → ℕ → Type 0
LeavesCount UntilRestart left after = left ≡ UntilRestart
LeavesCount armed left after = (left ≢ UntilRestart) × (after ≡ planned_count left)
