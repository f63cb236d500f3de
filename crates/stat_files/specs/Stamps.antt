-- The stamps of folders, as the files of the docroot hold them (Adobe Dispatcher manual, "Invalidating Files by Folder Level").
use Rattle.std.specs.Prelude.{◌≡◌, ◌≢◌, ◌⊎◌, ◌<◌, ◌≤◌, Option, Some, None, option_and_then, option_map, ◌^◌}
use Rattle.sp_base.specs.Paths.{mangled_segs}
use Rattle.sp_base.specs.Texts.{Segments, Text}
use Rattle.sp_base.specs.Limits.{greatest_u64}
use Rattle.sp_outside.specs.Files.{Files, file_at, told_with, with_file}
use Rattle.docroot_format.specs.Names.{HaveBytes, stat_name}
use Rattle.docroot_format.specs.Faults.{IsLeftByFault}
use Rattle.docroot_format.specs.Readings.{stat_of}
use Rattle.docroot_format.specs.Texts.{stat_text}
use Rattle.docroot_format.specs.declared.fault.FileFault.{FileFault}
use Rattle.docroot_format.specs.declared.fault.FileFault.TheVariants.{Disk as disk_failed}
use Rattle.cover_rules.specs.declared.stamp.Stamp.{Stamp}

-- the greatest stamp, which outdates every page
abbrev pub greatest_stamp : Stamp
greatest_stamp = record { epoch = greatest_u64; count = greatest_u64 }

-- a stamp that could be read, else the greatest
abbrev pub stamp_or_greatest : Option Stamp → Stamp
stamp_or_greatest None = greatest_stamp
stamp_or_greatest (Some stamp) = stamp

-- the stamp that the bytes of a .stat file stand for: bytes of another form stand for the greatest
abbrev pub stamp_in : Text → Stamp
stamp_in bytes = stamp_or_greatest (stat_of bytes)

-- the stamp that the files hold for a folder, where it has a .stat file
abbrev pub stamp_at : Files → Segments → Option Stamp
stamp_at files folder = option_map stamp_in (file_at files (stat_name folder))

-- a folder's .stat file is of the form and holds this stamp, or it is of another form, and this is the greatest
abbrev pub IsHeldOrGreatest : Files → Segments → Stamp → Type 0
IsHeldOrGreatest files folder stamp =
    (option_and_then stat_of (file_at files (stat_name folder)) ≡ Some stamp)
    ⊎ ((option_and_then stat_of (file_at files (stat_name folder)) ≡ None) × (stamp ≡ greatest_stamp))

-- a stamp is the same as another or before it: by the session, then by the count
abbrev pub IsUpTo : Stamp → Stamp → Type 0
IsUpTo stamp last = (stamp.epoch < last.epoch) ⊎ ((stamp.epoch ≡ last.epoch) × (stamp.count ≤ last.count))

-- the files after a touch of a folder: it has this stamp
abbrev pub files_with_stamp : Files → Segments → Stamp → Files
files_with_stamp files folder stamp = with_file files (stat_name folder) (stat_text stamp)

-- the same, where the disk tells its files
abbrev pub told_with_stamp : Option Files → Segments → Stamp → Option Files
told_with_stamp told folder stamp = told_with told (stat_name folder) (stat_text stamp)

-- a touch that failed leaves these files
abbrev pub LeftByTouch : Files → Files → Segments → Stamp → FileFault → Type 0
LeftByTouch old new folder stamp fault = IsLeftByFault (Some old) (told_with_stamp (Some old) folder stamp) (Some new) fault

-- each folder with another mangled path than this has the stamp that it had
abbrev pub KeepsOtherStamps : Files → Files → Segments → Type 0
KeepsOtherStamps old new folder = (other : Segments) → HaveBytes other → mangled_segs other ≢ mangled_segs folder → stamp_at new other ≡ stamp_at old other

-- the stamp that a folder is given is read back
abbrev pub IsReadBack : Files → Segments → Stamp → Type 0
IsReadBack files folder stamp = stamp_at (files_with_stamp files folder stamp) folder ≡ Some stamp

-- bytes that are written as the stamp of a folder keep those of others
abbrev pub StampsAreApart : Files → Segments → Text → Type 0
StampsAreApart files folder bytes = KeepsOtherStamps files (with_file files (stat_name folder) bytes) folder

-- the stamp of a folder is as it was
abbrev pub KeepsStamp : Files → Files → Segments → Type 0
KeepsStamp old new folder = stamp_at new folder ≡ stamp_at old folder

-- a touch that failed leaves the stamps of other folders as they were
abbrev pub FailedTouchesKeepOthers : Type 0
FailedTouchesKeepOthers = (files new : Files) (folder : Segments) (stamp : Stamp) (fault : FileFault) → HaveBytes folder
    → LeftByTouch files new folder stamp fault → KeepsOtherStamps files new folder

-- it leaves the files as they were or, where the disk failed, with the new stamp
abbrev pub FailedTouchesLeaveOldOrNew : Type 0
FailedTouchesLeaveOldOrNew = (files new : Files) (folder : Segments) (stamp : Stamp) (fault : FileFault) → LeftByTouch files new folder stamp fault
    → (new ≡ files) ⊎ ((fault ≡ disk_failed) × (new ≡ files_with_stamp files folder stamp))

-- so its folder has the old stamp or the new one
abbrev pub FailedTouchesLeaveOldStampOrNew : Type 0
FailedTouchesLeaveOldStampOrNew = (files new : Files) (folder : Segments) (stamp : Stamp) (fault : FileFault) → stamp.epoch < 2 ^ 64 → stamp.count < 2 ^ 64
    → LeftByTouch files new folder stamp fault → (stamp_at new folder ≡ stamp_at files folder) ⊎ (stamp_at new folder ≡ Some stamp)

-- and each file but the folder's .stat file is as it was
abbrev pub FailedTouchesKeepOtherFiles : Type 0
FailedTouchesKeepOtherFiles = (files new : Files) (folder : Segments) (stamp : Stamp) (fault : FileFault) (name : Text) → LeftByTouch files new folder stamp fault
    → name ≢ stat_name folder → file_at new name ≡ file_at files name
