-- Scaffolding: how files in memory fail as a scenario says, for the private functions of the run and for proofs alone.
use Rattle.std.specs.Prelude.{◌≡◌, ℕ, Bool, true, false, Result, Ok, Err}
use Rattle.sp_outside.specs.Causes.{next}
use Rattle.sp_outside.specs.Files.{Files}
use Rattle.sp_outside.specs.declared.disk.DiskFault.{DiskFault}
use Rattle.sp_outside.specs.declared.disk.DiskFault.TheVariants.{Failed, NoMemory}
use Rattle.sp_outside.specs.declared.mem_disk.Plan.{Plan}
use Rattle.sp_outside.specs.declared.mem_disk.Plan.TheVariants.{Never, Once, From, Stopped}

-- files of which one call may fail, and whether none may any more
pub record FailingState : Type 0 where
  pub files : Files
  pub spent : Bool

-- the count of its faults since a call was last told to fail
abbrev pub fault_count : Bool → ℕ
fault_count true = 1
fault_count false = 0

-- no call is planned to fail, or one that may
abbrev pub FailsOnce : Plan → Bool → Type 0
FailsOnce Never spent = Unit {0}
FailsOnce (Once n way) spent = spent ≡ false
FailsOnce (From n way) spent = ⊥
FailsOnce Stopped spent = ⊥

-- the call failed
abbrev pub has_disk_failed : {T : Type 0} → Result T DiskFault → Bool
has_disk_failed (Ok _) = false
has_disk_failed (Err Failed) = true
has_disk_failed (Err NoMemory) = false

-- files of which each call from one on fails, and how many failed
pub record StoppedState : Type 0 where
  pub files : Files
  pub failed : ℕ

-- no call is planned to fail by itself
abbrev pub PlansNoSingle : Plan → Type 0
PlansNoSingle (Once n way) = ⊥
PlansNoSingle _ = Unit {0}

-- one failure more, where the call failed
abbrev pub count_after : {T : Type 0} → ℕ → Result T DiskFault → ℕ
count_after failed (Ok _) = failed
count_after failed (Err Failed) = next failed
count_after failed (Err NoMemory) = failed
