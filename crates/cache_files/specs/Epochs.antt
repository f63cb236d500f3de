-- The number of a session, which .epoch counts.
use Rattle.std.specs.Prelude.{◌==◌, ◌+◌, ◌≡◌, ◌⊎◌, ◌∷◌, [], ℕ, true, false, List, Option, Some, None, Result, Ok, Err, IfSome, if◌then◌else◌, option_and_then, unwrap_or, ◌≢◌}
use Rattle.sp_base.specs.Limits.{greatest_u64}
use Rattle.sp_base.specs.Texts.{Text}
use Rattle.sp_outside.specs.Causes.{Rose}
use Rattle.sp_outside.specs.Calls.{Call, Get, Put, told_calls}
use Rattle.sp_outside.specs.Files.{Files, file_at, told_with, with_file}
use Rattle.sp_outside.specs.declared.disk.DiskFault.{DiskFault}
use Rattle.sp_outside.specs.declared.disk.DiskFault.TheVariants.{Failed, NoMemory as out_of_memory}
use Rattle.docroot_format.specs.Names.{epoch_name}
use Rattle.docroot_format.specs.Readings.{epoch_of}
use Rattle.docroot_format.specs.Texts.{epoch_text}
use Rattle.cache_files.specs.declared.epoch.OpenFault.{OpenFault}
use Rattle.cache_files.specs.declared.epoch.OpenFault.TheVariants.{Disk, Foreign, EpochEnd, NoMemory}

-- the fault of an opening whose disk answers this
abbrev pub open_fault : DiskFault → OpenFault
open_fault Failed = Disk
open_fault out_of_memory = NoMemory

-- the greatest number of a session
abbrev pub greatest_epoch : ℕ
greatest_epoch = greatest_u64

-- the number after one that was read
abbrev pub after_epoch : Option ℕ → Result ℕ OpenFault
after_epoch None = Err Foreign
after_epoch (Some epoch) = if epoch == greatest_epoch then Err EpochEnd else Ok (epoch + 1)

-- the number of the session after the one that the file holds: 1 where there is none
abbrev pub epoch_after : Option (List ℕ) → Result ℕ OpenFault
epoch_after None = Ok 1
epoch_after (Some bytes) = after_epoch (epoch_of bytes)

-- the number of the next session
abbrev pub next_epoch : Files → Result ℕ OpenFault
next_epoch files = epoch_after (file_at files epoch_name)

-- the number that the file holds, 0 where there is none
abbrev pub epoch_held : Files → ℕ
epoch_held files = unwrap_or (option_and_then epoch_of (file_at files epoch_name)) 0

-- the files with the number of a session
abbrev pub files_with_epoch : Files → ℕ → Files
files_with_epoch files epoch = with_file files epoch_name (epoch_text epoch)

-- the same, where the disk tells its files
abbrev pub told_with_epoch : Option Files → ℕ → Option Files
told_with_epoch told epoch = told_with told epoch_name (epoch_text epoch)

-- the calls of the disk: the file is read, then written with the number of the new session
abbrev pub open_calls : ℕ → List Call
open_calls epoch = Get epoch_name true ∷ Put epoch_name (epoch_text epoch) true ∷ []

-- An opening stopped: where the file was read, after it was, or where the next number was written.
abbrev pub IsOpenLeft : Option (List Call) → Option (List Call) → Option Files → Option Files → OpenFault → Type 0
IsOpenLeft asked made old new fault =
    ((made ≡ told_calls asked (Get epoch_name false ∷ [])) × (new ≡ old))
    ⊎ (((made ≡ told_calls asked (Get epoch_name true ∷ [])) × (new ≡ old))
    ⊎ ((epoch : ℕ) × (IfSome old (λ files. next_epoch files ≡ Ok epoch) × ((made ≡ told_calls asked (Get epoch_name true ∷ Put epoch_name (epoch_text epoch) false ∷ []))
    × ((new ≡ old) ⊎ ((fault ≡ Disk) × (new ≡ told_with_epoch old epoch)))))))

-- a session was begun in the files: they have its number, the one after that of the last
abbrev pub IsOpened : Files → Files → Type 0
IsOpened old new = (epoch : ℕ) × ((next_epoch old ≡ Ok epoch) × (new ≡ files_with_epoch old epoch))

-- an opening that failed leaves these files, whatever it asked
abbrev pub LeftByOpening : Files → Files → OpenFault → Type 0
LeftByOpening old new fault = (asked : Option (List Call)) × ((made : Option (List Call)) × IsOpenLeft asked made (Some old) (Some new) fault)

-- Disk comes only where the disk's count of faults rose, and any other answer leaves that count.
abbrev pub HasOpenCause : {T : Type 0} → ℕ → ℕ → Result T OpenFault → Type 0
HasOpenCause before after (Err Disk) = Rose before after
HasOpenCause before after _ = after ≡ before

-- the number of the session is as it was, or the next
abbrev pub HasOldNumberOrNext : Files → Files → Type 0
HasOldNumberOrNext old new = (epoch_held new ≡ epoch_held old) ⊎ (next_epoch old ≡ Ok (epoch_held new))

-- a file but for that of the number is as it was
abbrev pub KeepsFileBesideNumber : Files → Files → Text → Type 0
KeepsFileBesideNumber old new name = name ≢ epoch_name → file_at new name ≡ file_at old name
