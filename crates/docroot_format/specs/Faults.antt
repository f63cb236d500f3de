-- What a failing disk makes of a call on files, and when such a call may fail.
use Rattle.std.specs.Prelude.{◌≡◌, ◌⊎◌, ℕ, Bool, true, false, List, Option, Result, Ok, Err}
use Rattle.sp_outside.specs.Calls.{Call, told_call}
use Rattle.sp_outside.specs.Causes.{Rose}
use Rattle.sp_outside.specs.Files.{Files}
use Rattle.sp_outside.specs.declared.disk.DiskFault.{DiskFault}
use Rattle.sp_outside.specs.declared.disk.DiskFault.TheVariants.{Failed, NoMemory as out_of_memory}
use Rattle.docroot_format.specs.declared.fault.FileFault.{FileFault}
use Rattle.docroot_format.specs.declared.fault.FileFault.TheVariants.{Disk, NoMemory}

-- the fault of a call on files whose disk answers this
abbrev pub disk_file_fault : DiskFault → FileFault
disk_file_fault Failed = Disk
disk_file_fault out_of_memory = NoMemory

-- Disk comes only where the disk's count of faults rose, and any other answer leaves that count.
abbrev pub HasFileCause : {T : Type 0} → ℕ → ℕ → Result T FileFault → Type 0
HasFileCause before after (Ok _) = after ≡ before
HasFileCause before after (Err Disk) = Rose before after
HasFileCause before after (Err NoMemory) = after ≡ before

-- One change of the files failed: it was not made, or the disk failed after it was made whole.
abbrev pub IsLeftByFault : Option Files → Option Files → Option Files → FileFault → Type 0
IsLeftByFault old wanted new fault = (new ≡ old) ⊎ ((fault ≡ Disk) × (new ≡ wanted))

-- This one call was made of the disk, and it was answered as the call on files was; or none was, where memory ran out before it.
abbrev pub IsOneCall : {T : Type 0} → Option (List Call) → Option (List Call) → (Bool → Call) → Result T FileFault → Type 0
IsOneCall asked made call (Ok _) = made ≡ told_call asked (call true)
IsOneCall asked made call (Err Disk) = made ≡ told_call asked (call false)
IsOneCall asked made call (Err NoMemory) = (made ≡ asked) ⊎ (made ≡ told_call asked (call false))
