-- The files below a folder, which of them are the files of a disk, and with which of them a disk begins.
use Rattle.std.specs.Prelude.{◌≡◌, ◌↔◌, ◌≢◌, ◌&&◌, ◌<◌, ℕ, Bool, true, false, List, Option, Some, None, Contains, IfSome, ⊤, codes, nat_eq, option_map, if◌then◌else◌}
use Rattle.std.specs.Cmp.Lexicographic.{pointwise}
use Rattle.std.specs.FinMap.{empty, retain_keys}
use Rattle.std.specs.Option.{is_some}
use Rattle.sp_base.specs.Limits.{greatest_u64}
use Rattle.sp_base.specs.Texts.{Text}
use Rattle.sp_outside.specs.FileNames.{is_inside, is_left, is_own}
use Rattle.sp_outside.specs.Files.{Files, file_at}

-- the name of the file that has the number of the session
abbrev pub session_file : Text
session_file = codes ".epoch"

-- the name of the file that keeps the id of the boot of the machine in which the others were written
abbrev pub boot_file : Text
boot_file = codes ".boot%t%t"

-- the names are exactly those of files
abbrev pub IsNamesOf : Files → List Text → Type 0
IsNamesOf files names = (name : Text) → Contains names name ↔ (file_at files name ≢ None)

-- Of the files below a folder those are files of the disk whose names may have one.
abbrev pub disk_files : Files → Files
disk_files files = retain_keys files is_inside

-- the system tells an id of its boot, and it is the one that was kept
abbrev pub is_same_boot : Option Text → Option Text → Bool
is_same_boot None kept = false
is_same_boot (Some id) None = false
is_same_boot (Some id) (Some kept) = pointwise nat_eq id kept

-- A disk goes on with the files that it finds where they are of this boot of the machine, and one of them has the number of a session.
abbrev pub is_kept : Option Text → Files → Bool
is_kept boot files = is_some (file_at files session_file) && is_same_boot boot (file_at files boot_file)

-- The files that a disk begins with: those that it finds where it goes on with them, else none, since what isn't there can't be stale.
abbrev pub files_begun : Option Text → Files → Files
files_begun boot files = if is_kept boot files then disk_files files else empty

-- what holds of the files before and after, where they are told
abbrev pub WhileTold : (Files → Files → Type 0) → Option Files → Option Files → Type 0
WhileTold P None None = ⊤
WhileTold P None (Some new) = ⊥
WhileTold P (Some old) None = ⊥
WhileTold P (Some old) (Some new) = P old new

-- no call failed, as a count tells that isn't at its end
abbrev pub HasNoFault : ℕ → ℕ → Type 0
HasNoFault before after = (after ≡ before) × (before < greatest_u64)

-- each file that the folder keeps for itself is as it was, but for the one that keeps the boot's id
abbrev pub IsOwnKept : Files → Files → Type 0
IsOwnKept old new = (name : Text) → is_own name ≡ true → name ≢ boot_file → file_at new name ≡ file_at old name

-- no file is there that a process left beside one of the disk when it was killed
abbrev pub HasNoneLeft : Files → Type 0
HasNoneLeft files = (name : Text) → is_left name ≡ true → file_at files name ≡ None

-- A disk over the files below a folder: these, where they are told; how many calls below have failed; whether it has begun with them, and knows their names; how many of its calls have failed.
pub record FolderState : Type 0 where
  pub below : Option Files
  pub faults : ℕ
  pub is_open : Bool
  pub is_known : Bool
  pub failed : ℕ

-- The files of the disk, where those below its folder are told. Before it has begun they are those that it will begin with.
abbrev pub files_held : Option Text → FolderState → Option Files
files_held boot s = option_map (λ files. if s.is_open then disk_files files else files_begun boot files) s.below

-- With the call that reads the names each file goes that a killed process left, where no call below fails.
abbrev pub IsCleaned : FolderState → FolderState → Type 0
IsCleaned old new = old.is_known ≡ false → HasNoFault old.faults new.faults → IfSome new.below HasNoneLeft
