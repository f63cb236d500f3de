-- What a call on the files of the docroot makes of the pages, the stamps of folders and the number of the session that they hold.
use Rattle.std.specs.Prelude.{◌≡◌, ◌≢◌, ◌⊎◌, ◌≤◌, ◌<◌, ◌+◌, ℕ, Bool, IsTrue, Option, Some, None, length, OnOk, Result, IfErr, List, ◌^◌, ⊤, IfOk, IfSome, Ok}
use Rattle.std.specs.FinMap.{keys}
use Rattle.std.specs.List.{AllByRecursion, filter}
use Rattle.sp_base.specs.Bytes.{AreBytes}
use Rattle.sp_base.specs.Paths.{is_path}
use Rattle.sp_base.specs.Texts.{Segments, Text}
use Rattle.sp_base.specs.declared.answer.Answer.{Answer}
use Rattle.sp_outside.specs.Files.{Files}
use Rattle.sp_outside.specs.Calls.{Call}
use Rattle.cover_rules.specs.declared.page.PageKey.{PageKey}
use Rattle.cover_rules.specs.declared.stamp.Stamp.{Stamp}
use Rattle.cover_rules.specs.Pages.{IsPageKey}
use Rattle.docroot_format.specs.Names.{IsFolder}
use Rattle.docroot_format.specs.declared.fault.FileFault.{FileFault}
use Rattle.docroot_format.specs.declared.fault.FileFault.TheVariants.{Disk}
use Rattle.docroot_format.specs.Faults.{IsLeftByFault}
use Rattle.cache_files.specs.Changes.{HasNoPage, HasPage, HasSamePage, KeepsOtherPages, KeepsPages}
use Rattle.cache_files.specs.Epochs.{after_epoch, epoch_held, next_epoch, told_with_epoch, IsOpenLeft}
use Rattle.cache_files.specs.HeldStamps.{KeepsOrder}
use Rattle.cache_files.specs.declared.epoch.OpenFault.{OpenFault}
use Rattle.cache_files.specs.declared.epoch.OpenFault.TheVariants.{Disk as open_disk}
use Rattle.cache_files.specs.Pages.{IsPagePut, told_with_page, IsPutLeft, told_without_page, IsDropLeft}
use Rattle.stat_files.specs.Stamps.{stamp_at, told_with_stamp}

-- This holds of the files before and after a call, where the disk tells them: it tells them after the call exactly where it told them before.
abbrev pub Told : (Files → Files → Type 0) → Option Files → Option Files → Type 0
Told P None after = after ≡ None
Told P (Some old) None = ⊥
Told P (Some old) (Some new) = P old new

-- a folder that may have a stamp, spelled as its .stat file's name is: a path of bytes, mangled, whose segments have file names
pub record IsStampFolder (folder : Segments) : Type 0 where
  pub path : IsTrue (is_path folder)
  pub docroot : IsFolder folder
  pub bytes : AllByRecursion AreBytes folder

-- ---- how many files there are

-- how many names of files pass a test
abbrev pub count_names : (Text → Bool) → Files → ℕ
count_names is_counted files = length (filter is_counted (keys files))

-- whichever names are counted, at most so many files more have one of them
abbrev pub AddsNames : ℕ → Files → Files → Type 0
AddsNames most old new = (is_counted : Text → Bool) → count_names is_counted new ≤ count_names is_counted old + most

-- ---- what is beside a change

-- each folder has the stamp that it had
abbrev pub KeepsFolderStamps : Files → Files → Type 0
KeepsFolderStamps old new = (folder : Segments) → AllByRecursion AreBytes folder → stamp_at new folder ≡ stamp_at old folder

-- each folder that may have a stamp has the one that it had, but for one folder
abbrev pub KeepsOtherFolders : Segments → Files → Files → Type 0
KeepsOtherFolders folder old new = (other : Segments) → IsStampFolder other → other ≢ folder → stamp_at new other ≡ stamp_at old other

-- the number of the session is as it was, and so is that of the next one, or why there is none
pub record KeepsNumber (old new : Files) : Type 0 where
  pub held : epoch_held new ≡ epoch_held old
  pub next : next_epoch new ≡ next_epoch old

-- what a change of one page leaves as it was: other pages, each stamp, and the number of the session
pub record BesidePage (key : PageKey) (old new : Files) : Type 0 where
  pub pages : KeepsOtherPages old new key
  pub stamps : KeepsFolderStamps old new
  pub number : KeepsNumber old new

-- what a change of one folder's stamp leaves as it was: each page, the stamps of other folders, and the number of the session
pub record BesideStamp (folder : Segments) (old new : Files) : Type 0 where
  pub pages : KeepsPages old new
  pub stamps : KeepsOtherFolders folder old new
  pub number : KeepsNumber old new

-- what a change of the session's number leaves as it was: each page and each stamp
pub record BesideNumber (old new : Files) : Type 0 where
  pub pages : KeepsPages old new
  pub stamps : KeepsFolderStamps old new

-- ---- the page of a key

-- A put sets the page of its key, with two files. It leaves no stamp later than the session, where its own isn't and there was none.
pub record PageSet (key : PageKey) (stamp : Stamp) (answer : Answer) (old new : Files) : Type 0 where
  pub here : HasPage new key stamp answer
  pub beside : BesidePage key old new
  pub order : stamp.epoch ≤ epoch_held old → KeepsOrder old new
  pub names : AddsNames 2 old new

-- A put that failed leaves the old page, none, or, where the disk failed, the new one.
pub record MayPut (key : PageKey) (stamp : Stamp) (answer : Answer) (fault : FileFault) (old new : Files) : Type 0 where
  pub here : HasSamePage old new key ⊎ (HasNoPage new key ⊎ ((fault ≡ Disk) × HasPage new key stamp answer))
  pub beside : BesidePage key old new
  pub order : stamp.epoch ≤ epoch_held old → KeepsOrder old new
  pub names : AddsNames 2 old new

-- A drop leaves no page of its key.
pub record PageGone (key : PageKey) (old new : Files) : Type 0 where
  pub here : HasNoPage new key
  pub beside : BesidePage key old new
  pub order : KeepsOrder old new
  pub names : AddsNames 0 old new

-- A drop that failed leaves the old page or, where the disk failed, none.
pub record MayDrop (key : PageKey) (fault : FileFault) (old new : Files) : Type 0 where
  pub here : HasSamePage old new key ⊎ ((fault ≡ Disk) × HasNoPage new key)
  pub beside : BesidePage key old new
  pub order : KeepsOrder old new
  pub names : AddsNames 0 old new

-- ---- the stamp of a folder

-- A touch sets the stamp of its folder. It leaves no stamp later than the session, where its own isn't and there was none.
pub record StampSet (folder : Segments) (stamp : Stamp) (old new : Files) : Type 0 where
  pub here : stamp_at new folder ≡ Some stamp
  pub beside : BesideStamp folder old new
  pub order : stamp.epoch ≤ epoch_held old → KeepsOrder old new
  pub names : AddsNames 1 old new

-- A touch that failed leaves the old stamp or, where the disk failed, the new one.
pub record MayTouch (folder : Segments) (stamp : Stamp) (fault : FileFault) (old new : Files) : Type 0 where
  pub here : (stamp_at new folder ≡ stamp_at old folder) ⊎ ((fault ≡ Disk) × (stamp_at new folder ≡ Some stamp))
  pub beside : BesideStamp folder old new
  pub order : stamp.epoch ≤ epoch_held old → KeepsOrder old new
  pub names : AddsNames 1 old new

-- ---- the number of the session

-- the files hold this number, one more than before, and the next session is counted from it
pub record IsNextNumber (epoch : ℕ) (old new : Files) : Type 0 where
  pub held : epoch_held new ≡ epoch
  pub more : epoch ≡ epoch_held old + 1
  pub next : next_epoch new ≡ after_epoch (Some epoch)

-- An opening sets the number of the session. Its file is there from the first session on.
pub record NumberSet (epoch : ℕ) (old new : Files) : Type 0 where
  pub here : IsNextNumber epoch old new
  pub beside : BesideNumber old new
  pub order : KeepsOrder old new
  pub names : AddsNames 1 old new
  pub again : 0 < epoch_held old → AddsNames 0 old new

-- An opening that failed leaves the old number or, where the disk failed, the next.
pub record MayOpen (fault : OpenFault) (old new : Files) : Type 0 where
  pub here : KeepsNumber old new ⊎ ((fault ≡ open_disk) × IsNextNumber (epoch_held old + 1) old new)
  pub beside : BesideNumber old new
  pub order : KeepsOrder old new
  pub names : AddsNames 1 old new
  pub again : 0 < epoch_held old → AddsNames 0 old new

-- a put that is done sets the page of its key
abbrev pub PutsSetThePage : Type 0
PutsSetThePage = (result : Result ⊤ FileFault) (before after : Option Files) (key : PageKey) (stamp : Stamp) (answer : Answer) → IsPageKey key → IsPagePut stamp answer
    → OnOk result (after ≡ told_with_page before key stamp answer) → OnOk result (Told (PageSet key stamp answer) before after)

-- one that failed leaves the old page, none, or, where the disk failed, the new one
abbrev pub FailedPutsMaySetThePage : Type 0
FailedPutsMaySetThePage = (result : Result ⊤ FileFault) (asked made : Option (List Call)) (before after : Option Files) (key : PageKey) (stamp : Stamp) (answer : Answer)
    → IsPageKey key → IsPagePut stamp answer → IfErr result (IsPutLeft asked made before after key stamp answer)
    → IfErr result (λ fault. Told (MayPut key stamp answer fault) before after)

-- a touch that is done sets the stamp of its folder
abbrev pub TouchesSetTheStamp : Type 0
TouchesSetTheStamp = (result : Result ⊤ FileFault) (before after : Option Files) (folder : Segments) (stamp : Stamp) → IsStampFolder folder → stamp.epoch < 2 ^ 64
    → stamp.count < 2 ^ 64 → OnOk result (after ≡ told_with_stamp before folder stamp) → OnOk result (Told (StampSet folder stamp) before after)

-- one that failed leaves the old stamp or, where the disk failed, the new one
abbrev pub FailedTouchesMaySetTheStamp : Type 0
FailedTouchesMaySetTheStamp = (result : Result ⊤ FileFault) (before after : Option Files) (folder : Segments) (stamp : Stamp) → IsStampFolder folder → stamp.epoch < 2 ^ 64
    → stamp.count < 2 ^ 64 → IfErr result (IsLeftByFault before (told_with_stamp before folder stamp) after)
    → IfErr result (λ fault. Told (MayTouch folder stamp fault) before after)

-- a drop that is done leaves no page of its key
abbrev pub DropsLeaveNoPage : Type 0
DropsLeaveNoPage = (result : Result ⊤ FileFault) (before after : Option Files) (key : PageKey) → IsPageKey key
    → OnOk result (after ≡ told_without_page before key) → OnOk result (Told (PageGone key) before after)

-- one that failed leaves the old page or, where the disk failed, none
abbrev pub FailedDropsMayLeaveNoPage : Type 0
FailedDropsMayLeaveNoPage = (result : Result ⊤ FileFault) (asked made : Option (List Call)) (before after : Option Files) (key : PageKey) → IsPageKey key
    → IfErr result (IsDropLeft asked made before after key) → IfErr result (λ fault. Told (MayDrop key fault) before after)

-- an opening that is done sets the number of the session
abbrev pub OpeningsSetTheNumber : Type 0
OpeningsSetTheNumber = (result : Result ℕ OpenFault) (before after : Option Files) → IfOk result (λ epoch. IfSome before (λ files. next_epoch files ≡ Ok epoch))
    → IfOk result (λ epoch. after ≡ told_with_epoch before epoch) → IfOk result (λ epoch. Told (NumberSet epoch) before after)

-- one that failed leaves the old number or, where the disk failed, the next
abbrev pub FailedOpeningsMaySetTheNumber : Type 0
FailedOpeningsMaySetTheNumber = (result : Result ℕ OpenFault) (asked made : Option (List Call)) (before after : Option Files)
    → IfErr result (IsOpenLeft asked made before after) → IfErr result (λ fault. Told (MayOpen fault) before after)
