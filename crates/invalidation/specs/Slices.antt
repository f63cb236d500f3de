-- A flush under way: how far it is among the names of the files, and what a slice of it does (Adobe Dispatcher manual, "Invalidating Cached
-- Pages From AEM" and "Invalidating Files by Folder Level").
use Rattle.std.specs.Prelude.{◌≡◌, ◌⊎◌, ◌≤◌, ◌<◌, ◌+◌, ◌&&◌, ◌||◌, ℕ, Bool, true, not, List, [], Option, Some, None, IsTrue, IsSome, Contains, drop, is_some, take}
use Rattle.std.specs.Ordering.{is_lt}
use Rattle.sp_base.specs.Names.{by_name}
use Rattle.sp_base.specs.Texts.{Segments, Text}
use Rattle.sp_outside.specs.Causes.{Rose}
use Rattle.sp_outside.specs.Files.{Files, file_at}
use Rattle.cover_rules.specs.declared.page.PageKey.{PageKey}
use Rattle.cover_rules.specs.declared.stamp.Stamp.{Stamp}
use Rattle.cover_rules.specs.declared.invalidation.Invalidation.{Invalidation}
use Rattle.cover_rules.specs.Coverage.{deletes, handle_of, touched_of}
use Rattle.cover_rules.specs.Pages.{IsPageKey, page_path}
use Rattle.docroot_format.specs.Deletions.{begins_with_any, deleted_prefixes}
use Rattle.docroot_format.specs.Names.{body_name, is_page_file, stat_name}
use Rattle.docroot_format.specs.Texts.{stat_text}
use Rattle.cache_files.specs.declared.page.Page.{Page}
use Rattle.cache_files.specs.Changes.{KeepsPages}
use Rattle.cache_files.specs.Epochs.{epoch_held}
use Rattle.cache_files.specs.HeldStamps.{KeepsOrder}
use Rattle.cache_files.specs.Pages.{head_at, page_at, page_body_name, page_head_name}
use Rattle.stat_files.specs.Stamps.{stamp_at}
use Rattle.docroot_changes.specs.Changes.{AddsNames, IsStampFolder, KeepsNumber, count_names}
use Rattle.invalidation.specs.declared.place.WalkPlace.{WalkPlace}
use Rattle.invalidation.specs.declared.purge.Purge.{Purge}
use Rattle.invalidation.specs.declared.purge.PurgeStep.{PurgeStep}
use Rattle.invalidation.specs.declared.purge.PurgeStep.TheVariants.{More, Done, DiskFailed, NoMemory}

-- ---- what callers see of a flush

-- the invalidation that it carries out
abbrev pub inv_of : Purge → Invalidation
inv_of purge = purge.inv

-- how deep .stat files lie
abbrev pub level_of : Purge → ℕ
level_of purge = purge.level

-- the stamp that the folders get
abbrev pub purge_stamp : Purge → Stamp
purge_stamp purge = purge.stamp

-- how far it is among the names of the files, once it has begun
abbrev pub purge_place : Purge → Option WalkPlace
purge_place purge = purge.place

-- it has made its first slice
abbrev pub HasBegun : Purge → Type 0
HasBegun purge = IsSome purge.place

-- two flushes are of the same invalidation and stamp
pub record IsSamePurge (before after : Purge) : Type 0 where
  pub level : after.level ≡ before.level
  pub inv : after.inv ≡ before.inv
  pub stamp : after.stamp ≡ before.stamp

-- ---- places among the names

-- The name was looked at by a walk through these prefixes: it begins with one that the walk is through with, or with the one at which it
-- stands, and isn't after the last name that it looked at there.
abbrev pub is_passed : List Text → WalkPlace → Text → Bool
is_passed prefixes place name = begins_with_any (take place.prefix prefixes) name
    || (begins_with_any (take 1 (drop place.prefix prefixes)) name && not (is_lt (by_name place.last name)))

-- the start of a walk
abbrev pub start_place : WalkPlace
start_place = record { prefix = 0; last = [] }

-- the place from which the next slice walks
abbrev pub place_or_start : Option WalkPlace → WalkPlace
place_or_start None = start_place
place_or_start (Some place) = place

-- a walk through these prefixes has still to look at the name
abbrev pub is_to_look_at : List Text → Option WalkPlace → Text → Bool
is_to_look_at prefixes place name = begins_with_any prefixes name && not (is_passed prefixes (place_or_start place) name)

-- how many names of files the flush has still to look at
abbrev pub names_ahead : Purge → Files → ℕ
names_ahead purge files = count_names (is_to_look_at (deleted_prefixes purge.inv) purge.place) files

-- how many names that the flush had still to look at before a slice got a file in it: names of .stat files that the first slice wrote
abbrev pub names_written : Purge → Files → Files → ℕ
names_written purge old new = count_names (λ name. is_to_look_at (deleted_prefixes purge.inv) purge.place name && not (is_some (file_at old name))) new

-- the page stands behind the place of a flush that has begun: it is the one at the handle, or the name of its body was looked at
abbrev pub IsBehindPlace : Invalidation → Option WalkPlace → PageKey → Type 0
IsBehindPlace inv None key = ⊥
IsBehindPlace inv (Some place) key = (page_path key ≡ handle_of inv) ⊎ IsTrue (is_passed (deleted_prefixes inv) place (body_name key.folder key.file))

-- ---- how far a flush is

-- each folder that it touches has its stamp
abbrev pub AllTouched : Purge → (Segments → Option Stamp) → Type 0
AllTouched purge stat = (folder : Segments) → IsStampFolder folder → Contains (touched_of purge.level purge.inv) folder → stat folder ≡ Some purge.stamp

-- no page that it deletes stands behind its place
abbrev pub BehindGone : Purge → (PageKey → Option Page) → Type 0
BehindGone purge page = (key : PageKey) → IsPageKey key → deletes purge.inv key ≡ true → IsBehindPlace purge.inv purge.place key → page key ≡ None

-- no page that it deletes is there
abbrev pub AllGone : Purge → (PageKey → Option Page) → Type 0
AllGone purge page = (key : PageKey) → IsPageKey key → deletes purge.inv key ≡ true → page key ≡ None

-- How far it is: once it has begun, its folders are touched, and no page that it deletes stands behind its place.
pub record Progress (purge : Purge) (page : PageKey → Option Page) (stat : Segments → Option Stamp) : Type 0 where
  pub touched : HasBegun purge → AllTouched purge stat
  pub gone : BehindGone purge page

-- ---- what a slice does

-- Whatever stopped it, a flush took away only pages that its invalidation deletes, and gave only folders that it touches its stamp.
pub record Sliced (level : ℕ) (inv : Invalidation) (stamp : Stamp) (page after : PageKey → Option Page) (stat now : Segments → Option Stamp) : Type 0 where
  pub drops : (key : PageKey) → IsPageKey key → (after key ≡ page key) ⊎ ((deletes inv key ≡ true) × (after key ≡ None))
  pub touches : (folder : Segments) → IsStampFolder folder → (now folder ≡ stat folder) ⊎ (Contains (touched_of level inv) folder × (now folder ≡ Some stamp))

-- each head that stands at a key is as it was, or that of a page that the invalidation deletes, and gone
abbrev pub TakesHeads : Invalidation → Files → Files → Type 0
TakesHeads inv old new = (key : PageKey) → IsPageKey key → (head_at new key ≡ head_at old key) ⊎ ((deletes inv key ≡ true) × (head_at new key ≡ None))

-- the name is that of a file of the page at the handle
abbrev pub IsHandlePage : Invalidation → Text → Type 0
IsHandlePage inv name = (key : PageKey) × (IsPageKey key × ((page_path key ≡ handle_of inv) × ((name ≡ page_body_name key) ⊎ (name ≡ page_head_name key))))

-- the name begins with one of the prefixes, and is a page file's
abbrev pub IsListedPage : List Text → Text → Type 0
IsListedPage prefixes name = IsTrue (is_page_file name) × IsTrue (begins_with_any prefixes name)

-- the name is that of a file which the invalidation takes away
abbrev pub IsTakenFor : Invalidation → Text → Type 0
IsTakenFor inv name = IsHandlePage inv name ⊎ IsListedPage (deleted_prefixes inv) name

-- the same, of a slice from this place: only the first takes those of the page at the handle
abbrev pub IsTakenFrom : Invalidation → Option WalkPlace → Text → Type 0
IsTakenFrom inv None = IsTakenFor inv
IsTakenFrom inv (Some place) = IsListedPage (deleted_prefixes inv)

-- The name stands behind the place of a flush that has begun: it is that of a file of the page at the handle, or it was looked at, and is a page
-- file's.
abbrev pub IsFileBehind : Invalidation → Option WalkPlace → Text → Type 0
IsFileBehind inv None name = ⊥
IsFileBehind inv (Some place) name = IsHandlePage inv name ⊎ (IsTrue (is_page_file name) × IsTrue (is_passed (deleted_prefixes inv) place name))

-- no file has the name, or it stood behind this place before, and its file is as it was
abbrev pub IsGoneSince : Invalidation → Option WalkPlace → Files → Files → Text → Type 0
IsGoneSince inv place old new name = (file_at new name ≡ None) ⊎ (IsFileBehind inv place name × (file_at new name ≡ file_at old name))

-- the name is that of a folder's .stat file, of one of these
abbrev pub IsStatOf : List Segments → Text → Type 0
IsStatOf folders name = (folder : Segments) × (Contains folders folder × (name ≡ stat_name folder))

-- each file is as it was, or has a name of which the first holds, and is gone, or one of which the second holds, and holds the stamp
abbrev pub ChangesFiles : (IsTaken IsStamped : Text → Type 0) → Stamp → Files → Files → Type 0
ChangesFiles IsTaken IsStamped stamp old new = (name : Text) → (file_at new name ≡ file_at old name)
    ⊎ ((IsTaken name × (file_at new name ≡ None)) ⊎ (IsStamped name × (file_at new name ≡ Some (stat_text stamp))))

-- whichever names are counted, at most so many files fewer have one of them
abbrev pub LosesNames : ℕ → Files → Files → Type 0
LosesNames most old new = (is_counted : Text → Bool) → count_names is_counted old ≤ count_names is_counted new + most

-- how many .stat files a slice from this place writes at most
abbrev pub stamps_written : ℕ → Option WalkPlace → ℕ
stamps_written level None = level + 1
stamps_written level (Some place) = 0

-- how many names of files a slice may add: one for each folder that it touches, where it is the first
abbrev pub most_added : Purge → ℕ
most_added purge = stamps_written purge.level purge.place

-- the most names that a slice looks at
abbrev pub slice_names : ℕ
slice_names = 64

-- how many files a slice from this place takes away at most: one for each name that it looks at, and the two of the page at the handle, where
-- it is the first
abbrev pub files_taken : Option WalkPlace → ℕ
files_taken None = slice_names + 2
files_taken (Some place) = slice_names

-- the folders that a slice from this place touches
abbrev pub folders_of : ℕ → Invalidation → Option WalkPlace → List Segments
folders_of level inv None = touched_of level inv
folders_of level inv (Some place) = []

-- What a slice left that didn't fail: after More the flush has begun, is as far as it says, and has looked at 64 names; after Done its folders
-- are touched and its pages gone.
abbrev pub SliceLeft : Purge → Purge → PurgeStep → Files → Files → Type 0
SliceLeft before after More old new = HasBegun after × (Progress before (page_at old) (stamp_at old) → Progress after (page_at new) (stamp_at new))
    × (names_ahead after new + slice_names ≤ names_ahead before old + most_added before)
SliceLeft before after Done old new = Progress before (page_at old) (stamp_at old) → AllTouched after (stamp_at new) × AllGone after (page_at new)
SliceLeft before after DiskFailed old new = Unit {0}
SliceLeft before after NoMemory old new = Unit {0}

-- How many names a slice that didn't fail looked at, of those that were ahead of the flush and those that the slice wrote: after More exactly
-- as many as a slice looks at, and the rest are ahead of it still; after Done fewer, and all of them.
abbrev pub SliceLooked : Purge → Purge → PurgeStep → Files → Files → Type 0
SliceLooked before after More old new = names_ahead before old + names_written before old new ≡ names_ahead after new + slice_names
SliceLooked before after Done old new = (names_ahead before old + names_written before old new < slice_names) × (names_ahead after new ≡ 0)
SliceLooked before after DiskFailed old new = Unit {0}
SliceLooked before after NoMemory old new = Unit {0}

-- The files that a slice removed, which didn't fail: after More each file behind the place that it came to is gone, unless it stood behind the one
-- from which it set out; after Done each that the invalidation takes away.
abbrev pub SliceRemoves : Purge → Purge → PurgeStep → Files → Files → Type 0
SliceRemoves before after More old new = (name : Text) → IsFileBehind after.inv after.place name → IsGoneSince before.inv before.place old new name
SliceRemoves before after Done old new = (name : Text) → IsTakenFor after.inv name → IsGoneSince before.inv before.place old new name
SliceRemoves before after DiskFailed old new = Unit {0}
SliceRemoves before after NoMemory old new = Unit {0}

-- What a slice makes of the files. Only the first touches folders, and it does so before it takes a page away.
pub record IsSlice (before after : Purge) (step : PurgeStep) (old new : Files) : Type 0 where
  pub sliced : Sliced before.level before.inv before.stamp (page_at old) (page_at new) (stamp_at old) (stamp_at new)
  pub heads : TakesHeads before.inv old new
  pub files : ChangesFiles (IsTakenFrom before.inv before.place) (IsStatOf (folders_of before.level before.inv before.place)) before.stamp old new
  pub number : KeepsNumber old new
  pub order : before.stamp.epoch ≤ epoch_held old → KeepsOrder old new
  pub later : HasBegun before → (folder : Segments) → IsStampFolder folder → stamp_at new folder ≡ stamp_at old folder
  pub stamps_first : HasBegun before ⊎ (KeepsPages old new ⊎ AllTouched before (stamp_at new))
  pub names : AddsNames (most_added before) old new
  pub taken : LosesNames (files_taken before.place) old new
  pub left : SliceLeft before after step old new
  pub looked : SliceLooked before after step old new
  pub removed : SliceRemoves before after step old new

-- DiskFailed comes only where the disk's count of faults rose, and any other answer leaves that count.
abbrev pub HasSliceCause : ℕ → ℕ → PurgeStep → Type 0
HasSliceCause faults now DiskFailed = Rose faults now
HasSliceCause faults now _ = now ≡ faults
