-- What the parts of a slice make of the files. Only private functions and proofs need these.
use Rattle.std.specs.Prelude.{◌≡◌, ◌⊎◌, ◌<◌, ◌≤◌, ◌+◌, ◌-◌, ℕ, Bool, true, false, List, [], Option, Some, None, Result, Ok, Err, Contains, IsTrue, length, slice_get, take}
use Rattle.sp_base.specs.Texts.{Segments, Text}
use Rattle.sp_outside.specs.Files.{Files, file_at, has_prefix}
use Rattle.cover_rules.specs.declared.stamp.Stamp.{Stamp}
use Rattle.cover_rules.specs.declared.invalidation.Invalidation.{Invalidation}
use Rattle.cover_rules.specs.Coverage.{touched_of}
use Rattle.docroot_format.specs.Deletions.{begins_with_any}
use Rattle.docroot_format.specs.Names.{is_page_file}
use Rattle.docroot_format.specs.declared.fault.FileFault.{FileFault}
use Rattle.docroot_format.specs.declared.fault.FileFault.TheVariants.{Disk, NoMemory}
use Rattle.cache_files.specs.Changes.{KeepsPages}
use Rattle.cache_files.specs.Epochs.{epoch_held}
use Rattle.cache_files.specs.HeldStamps.{KeepsOrder}
use Rattle.stat_files.specs.Stamps.{stamp_at}
use Rattle.docroot_changes.specs.Changes.{AddsNames, IsStampFolder, KeepsNumber, count_names}
use Rattle.invalidation.specs.Slices.{ChangesFiles, IsHandlePage, IsListedPage, IsStatOf, LosesNames, is_passed, is_to_look_at, slice_names, folders_of, most_added}
use Rattle.invalidation.specs.declared.place.WalkPlace.{WalkPlace}
use Rattle.invalidation.specs.declared.purge.PurgeStep.{PurgeStep}
use Rattle.invalidation.specs.declared.purge.PurgeStep.TheVariants.{More, Done as PurgeDone, DiskFailed, NoMemory as PurgeNoMemory}
use Rattle.invalidation.specs.declared.purge.Purge.{Purge}

-- ---- files that are taken away

-- Each file is as it was, or has a name of which this holds, and is gone; at most so many went.
pub record TakesFiles (IsTaken : Text → Type 0) (most : ℕ) (old new : Files) : Type 0 where
  pub files : (name : Text) → (file_at new name ≡ file_at old name) ⊎ (IsTaken name × (file_at new name ≡ None))
  pub names : AddsNames 0 old new
  pub loses : LosesNames most old new

-- the name is this one, and a page file's
abbrev pub IsThisPage : Text → Text → Type 0
IsThisPage name other = (other ≡ name) × IsTrue (is_page_file name)

-- the name is one of these, and a page file's
abbrev pub IsPageAmong : List Text → Text → Type 0
IsPageAmong names name = Contains names name × IsTrue (is_page_file name)

-- the page files among these names are gone
abbrev pub AreGone : List Text → Files → Type 0
AreGone names files = (name : Text) → IsPageAmong names name → file_at files name ≡ None

-- of these names the first so many were gone through: the page files among them are gone, and only page files among all of them went
pub record TakenTo (names : List Text) (seen : ℕ) (old new : Files) : Type 0 where
  pub takes : TakesFiles (IsPageAmong names) seen old new
  pub gone : AreGone (take seen names) new

-- ---- a walk through the names that begin with one of several prefixes

-- The walk went on from a place to another, past exactly so many names: the page files among them are gone.
pub record Walked (prefixes : List Text) (start now : WalkPlace) (seen : ℕ) (old new : Files) : Type 0 where
  pub takes : TakesFiles (IsListedPage prefixes) seen old new
  pub passed : (name : Text) → IsTrue (is_page_file name) → IsTrue (is_passed prefixes now name) → IsTrue (is_passed prefixes start name) ⊎ (file_at new name ≡ None)
  pub ahead : count_names (is_to_look_at prefixes (Some start)) old ≡ count_names (is_to_look_at prefixes (Some now)) new + seen

-- The place after a list of at most so many names: at the last of them where the list was full, else at the start of the next prefix.
abbrev pub IsPlaceAfter : WalkPlace → List Text → ℕ → WalkPlace → Type 0
IsPlaceAfter place names most now = ((length names < most) × (now.prefix ≡ place.prefix + 1) × (now.last ≡ []))
    ⊎ ((length names ≡ most) × (now.prefix ≡ place.prefix) × (slice_get names (length names - 1) ≡ Some now.last))

-- the prefix at which a walk stands after a list: the same where the list was full, else the next
abbrev pub IsNextPrefix : WalkPlace → ℕ → ℕ → WalkPlace → Type 0
IsNextPrefix place seen most now = ((seen < most) × (now.prefix ≡ place.prefix + 1)) ⊎ ((seen ≡ most) × (now.prefix ≡ place.prefix))

-- a name that begins with one of the prefixes begins with none of those before it
abbrev pub AreNamesApart : List Text → Type 0
AreNamesApart prefixes = (n : ℕ) (prefix name : Text) → slice_get prefixes n ≡ Some prefix → IsTrue (has_prefix prefix name) → begins_with_any (take n prefixes) name ≡ false

-- The walk stopped at a place: past as many names as a slice looks at, or past fewer, at its end.
abbrev pub WalkedOn : List Text → WalkPlace → WalkPlace → Bool → Files → Files → Type 0
WalkedOn prefixes start now true old new = Walked prefixes start now slice_names old new
WalkedOn prefixes start now false old new = (seen : ℕ) × (Walked prefixes start now seen old new × ((length prefixes ≤ now.prefix) × (seen < slice_names)))

-- ---- the page at the handle

-- no file of the page at the handle is there
abbrev pub IsHandleGone : Invalidation → Files → Type 0
IsHandleGone inv files = (name : Text) → IsHandlePage inv name → file_at files name ≡ None

-- ---- folders that are touched

-- Folders got a stamp, at most so many of these; all else that the files hold is as it was.
pub record Touches (folders : List Segments) (most : ℕ) (stamp : Stamp) (old new : Files) : Type 0 where
  pub pages : KeepsPages old new
  pub stamps : (folder : Segments) → IsStampFolder folder → (stamp_at new folder ≡ stamp_at old folder) ⊎ (Contains folders folder × (stamp_at new folder ≡ Some stamp))
  pub files : ChangesFiles (λ name. ⊥) (IsStatOf folders) stamp old new
  pub loses : LosesNames 0 old new
  pub number : KeepsNumber old new
  pub order : stamp.epoch ≤ epoch_held old → KeepsOrder old new
  pub names : AddsNames most old new

-- each of the first so many folders has the stamp
abbrev pub AreTouched : List Segments → Stamp → Files → Type 0
AreTouched folders stamp files = (folder : Segments) → IsStampFolder folder → Contains folders folder → stamp_at files folder ≡ Some stamp

-- of these folders the first so many were gone through
pub record TouchedTo (folders : List Segments) (seen : ℕ) (stamp : Stamp) (old new : Files) : Type 0 where
  pub touches : Touches folders seen stamp old new
  pub touched : AreTouched (take seen folders) stamp new

-- ---- a slice

-- The first part of a slice touches folders; the rest takes files away, of whose names this holds, and does so only once all folders are touched.
pub record SliceChange (IsTaken : Text → Type 0) (folders : List Segments) (most taken : ℕ) (stamp : Stamp) (old new : Files) : Type 0 where
  pub between : Files
  pub touches : Touches folders most stamp old between
  pub takes : TakesFiles IsTaken taken between new
  pub first : AreTouched folders stamp between ⊎ (new ≡ between)

-- the first part of a flush, that wasn't stopped: its folders were touched, and then the page at its handle went
pub record Opened (level : ℕ) (inv : Invalidation) (stamp : Stamp) (old new : Files) : Type 0 where
  pub between : Files
  pub touches : Touches (touched_of level inv) (level + 1) stamp old between
  pub touched : AreTouched (touched_of level inv) stamp between
  pub takes : TakesFiles (IsHandlePage inv) 2 between new
  pub gone : IsHandleGone inv new

-- how many files of the page at the handle a slice from this place takes away at most
abbrev pub handle_files : Option WalkPlace → ℕ
handle_files None = 2
handle_files (Some place) = 0

-- the name is that of a file which a slice from this place takes away before it walks
abbrev pub IsTakenFirst : Invalidation → Option WalkPlace → Text → Type 0
IsTakenFirst inv None = IsHandlePage inv
IsTakenFirst inv (Some place) = λ name. ⊥

-- the flush has begun: this slice opened it, or an earlier one
abbrev pub IsBegun : ℕ → Invalidation → Stamp → Option WalkPlace → Files → Files → Type 0
IsBegun level inv stamp None old new = Opened level inv stamp old new
IsBegun level inv stamp (Some place) old new = new ≡ old

-- how a slice ended, by the answer of the call that makes it
abbrev pub purge_step_of : Result Bool FileFault → PurgeStep
purge_step_of (Ok true) = More
purge_step_of (Ok false) = PurgeDone
purge_step_of (Err Disk) = DiskFailed
purge_step_of (Err NoMemory) = PurgeNoMemory

-- The files changed as the beginning of a slice may change them, wherever it ends: folders were touched, and then maybe the page at the handle went.
abbrev pub BeginsSlice : Purge → Files → Files → Type 0
BeginsSlice purge old new =
    SliceChange (IsTakenFirst purge.inv purge.place) (folders_of purge.level purge.inv purge.place) (most_added purge) (handle_files purge.place) purge.stamp old new
