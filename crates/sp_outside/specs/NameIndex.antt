-- What the names that a disk knows have to do with its files. Only the model of that disk and proofs need these.
use Rattle.std.specs.Prelude.{◌≡◌, ◌≢◌, ◌↔◌, ◌⊎◌, if◌then◌else◌, Bool, true, false, List, Option, None, Contains, IfSome, ⊤}
use Rattle.std.specs.FinMap.{FinMap, contains_key}
use Rattle.sp_base.specs.Names.{by_name}
use Rattle.sp_base.specs.Texts.{Text}
use Rattle.sp_outside.specs.FileNames.{is_inside, is_left}
use Rattle.sp_outside.specs.Files.{Files, file_at, without_file}
use Rattle.sp_outside.specs.FolderFiles.{WhileTold, boot_file, disk_files}

-- a set of names
abbrev pub NameSet : Type 0
NameSet = FinMap by_name ⊤

-- Each file's name is among the names, and each of the names that isn't in doubt has its file.
pub record IsIndex (files : Files) (names doubts : NameSet) : Type 0 where
  pub listed : (name : Text) → contains_key files name ≡ true → contains_key names name ≡ true
  pub backed : (name : Text) → contains_key names name ≡ true → contains_key doubts name ≡ false → contains_key files name ≡ true

-- a disk that knows its names has begun, and they are those of its files, but for those in doubt
pub record IsFolderIndex (below : Option Files) (is_open is_known : Bool) (names doubts : NameSet) : Type 0 where
  pub begun : is_known ≡ true → is_open ≡ true
  pub index : is_known ≡ true → IfSome below (λ files. IsIndex (disk_files files) names doubts)

-- no file but that of this name may be another
abbrev pub IsSameBut : Text → Files → Files → Type 0
IsSameBut name old new = (other : Text) → other ≢ name → file_at new other ≡ file_at old other

-- what is neither a file of the disk nor that of the boot is as it was
abbrev pub IsRestKept : Files → Files → Type 0
IsRestKept old new = (name : Text) → is_inside name ≡ false → name ≢ boot_file → file_at new name ≡ file_at old name

-- no file came, and none went but of those that a killed process left
pub record IsLeftTaken (old new : Files) : Type 0 where
  pub kept : (name : Text) → is_left name ≡ false → file_at new name ≡ file_at old name
  pub fewer : (name : Text) → file_at old name ≡ None → file_at new name ≡ None

-- none is there of those that a killed process left, under the names that were found
abbrev pub IsLeftGone : List Text → Files → Type 0
IsLeftGone found files = (name : Text) → Contains found name → is_left name ≡ true → file_at files name ≡ None

-- the file of a name is gone, where it is one that a killed process left, or the files are as they were
abbrev pub IsLeftOrNot : Text → Files → Files → Type 0
IsLeftOrNot name old new = (new ≡ old) ⊎ ((is_left name ≡ true) × (new ≡ without_file old name))

-- the set has exactly the names of a list that may have a file of the disk
abbrev pub IsNamesOfDisk : List Text → NameSet → Type 0
IsNamesOfDisk found names = (name : Text) → contains_key names name ≡ true ↔ ((is_inside name ≡ true) × Contains found name)

-- the file of a name is gone
abbrev pub IsWithout : Text → Files → Files → Type 0
IsWithout name old new = new ≡ without_file old name

-- the same, where the files are told
abbrev pub IsGone : Text → Option Files → Option Files → Type 0
IsGone name old new = WhileTold (IsWithout name) old new

-- the file of a name is gone, where it is one of the disk, and nothing else is changed
abbrev pub IsTaken : Text → Files → Files → Type 0
IsTaken name old new = new ≡ (if is_inside name then without_file old name else old)

-- or it is as before
abbrev pub IsTakenOrNot : Text → Files → Files → Type 0
IsTakenOrNot name old new = (new ≡ old) ⊎ ((is_inside name ≡ true) × (new ≡ without_file old name))
