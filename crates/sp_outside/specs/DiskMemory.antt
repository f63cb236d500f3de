-- The state of a disk in memory, which of its calls fail, and what each call does to it.
use Rattle.std.specs.Prelude.{◌≡◌, ◌≢◌, ◌==◌, ◌-◌, ℕ, Option, Some, None, Result, Ok, Err, IsSome, if◌then◌else◌}
use Rattle.sp_outside.specs.Causes.{next}
use Rattle.sp_outside.specs.Files.{Files}
use Rattle.sp_outside.specs.declared.disk.DiskFault.{DiskFault}
use Rattle.sp_outside.specs.declared.disk.DiskFault.TheVariants.{Failed, NoMemory}
use Rattle.sp_outside.specs.declared.mem_disk.Way.{Way}
use Rattle.sp_outside.specs.declared.mem_disk.Way.TheVariants.{Old, New}
use Rattle.sp_outside.specs.declared.mem_disk.Plan.{Plan}
use Rattle.sp_outside.specs.declared.mem_disk.Plan.TheVariants.{Never, Once, From, Stopped}

-- A disk in memory: its files, which of its next calls fail, and how many calls were made and have failed.
pub record DiskState : Type 0 where
  pub files : Files
  pub plan : Plan
  pub calls : ℕ
  pub failed : ℕ

-- how the next call fails, if it does
abbrev pub next_fails : Plan → Option Way
next_fails Never = None
next_fails (Once n way) = if n == 1 then Some way else None
next_fails (From n way) = if n == 1 then Some way else None
next_fails Stopped = Some Old

-- which calls fail after one more
abbrev pub plan_after : Plan → Plan
plan_after Never = Never
plan_after (Once n way) = if n == 1 then Never else Once (n - 1) way
plan_after (From n way) = if n == 1 then Stopped else From (n - 1) way
plan_after Stopped = Stopped

-- which calls fail after a stop has ended; a single failure that is still to come stays
abbrev pub plan_gone : Plan → Plan
plan_gone (Once n way) = Once n way
plan_gone _ = Never

-- a call fails exactly where the plan says so, and is out of memory only where it may pass
abbrev pub IsPlanned : {T : Type 0} → Plan → Result T DiskFault → Type 0
IsPlanned plan (Ok _) = next_fails plan ≡ None
IsPlanned plan (Err Failed) = IsSome (next_fails plan)
IsPlanned plan (Err NoMemory) = next_fails plan ≡ None

-- the same of a put, which may also be out of memory where it was to fail with its change made, since it then has to make it
abbrev pub IsPlannedPut : {T : Type 0} → Plan → Result T DiskFault → Type 0
IsPlannedPut plan (Ok _) = next_fails plan ≡ None
IsPlannedPut plan (Err Failed) = IsSome (next_fails plan)
IsPlannedPut plan (Err NoMemory) = next_fails plan ≢ Some Old

-- what a change that fails makes of the files: nothing, or the whole change
abbrev pub files_left : Option Way → Files → Files → Files
files_left None old wanted = old
files_left (Some Old) old wanted = old
files_left (Some New) old wanted = wanted

-- a call that reads changes the counts alone
abbrev pub read_after : {T : Type 0} → DiskState → Result T DiskFault → DiskState
read_after s (Ok _) = record s { plan = plan_after s.plan; calls = next s.calls }
read_after s (Err Failed) = record s { plan = plan_after s.plan; calls = next s.calls; failed = next s.failed }
read_after s (Err NoMemory) = record s { plan = plan_after s.plan; calls = next s.calls }

-- a call that was to make the files `wanted` makes them so, or leaves what the plan says; without memory it changes none
abbrev pub write_after : {T : Type 0} → DiskState → Files → Result T DiskFault → DiskState
write_after s wanted (Ok _) = record s { files = wanted; plan = plan_after s.plan; calls = next s.calls }
write_after s wanted (Err Failed) = record s { files = files_left (next_fails s.plan) s.files wanted; plan = plan_after s.plan; calls = next s.calls; failed = next s.failed }
write_after s wanted (Err NoMemory) = record s { plan = plan_after s.plan; calls = next s.calls }
