-- What a change of the files of the docroot keeps of its pages, its stamps and the number of the session.
use Rattle.std.specs.Prelude.{◌≡◌, ◌≢◌, ◌⊎◌, List, Option, Some, None, length}
use Rattle.sp_base.specs.Texts.{Segments, Text}
use Rattle.sp_base.specs.declared.answer.Answer.{Answer}
use Rattle.sp_outside.specs.Calls.{Call}
use Rattle.sp_outside.specs.Files.{Files, file_at, with_file, without_file}
use Rattle.cover_rules.specs.Pages.{IsPageKey}
use Rattle.cover_rules.specs.declared.page.PageKey.{PageKey}
use Rattle.cover_rules.specs.declared.stamp.Stamp.{Stamp}
use Rattle.docroot_format.specs.Names.{HaveBytes, stat_name}
use Rattle.docroot_format.specs.declared.fault.FileFault.{FileFault}
use Rattle.docroot_format.specs.declared.fault.FileFault.TheVariants.{NoMemory}
use Rattle.cache_files.specs.Epochs.{epoch_held}
use Rattle.cache_files.specs.Pages.{IsDropLeft, IsPutLeft, files_with_page, head_at, page_at, page_body_name, page_head_name, plain_page}

-- ---- the page of one key

-- the files hold for a key what was put: the page of an answer with its stamp, and the head that says so
pub record HasPage (files : Files) (key : PageKey) (stamp : Stamp) (answer : Answer) : Type 0 where
  pub page : page_at files key ≡ Some (plain_page stamp answer.kind answer.body)
  pub head : head_at files key ≡ Some (record { stamp = stamp; kind = answer.kind; length = length answer.body })

-- the files hold for a key what they held before: its page, and its head, which may stand without a page
pub record HasSamePage (old new : Files) (key : PageKey) : Type 0 where
  pub page : page_at new key ≡ page_at old key
  pub head : head_at new key ≡ head_at old key

-- the files hold neither a page nor a head for a key
pub record HasNoPage (files : Files) (key : PageKey) : Type 0 where
  pub page : page_at files key ≡ None
  pub head : head_at files key ≡ None

-- the files hold for a key what they held before, or nothing
abbrev pub IsOldOrNone : Files → Files → PageKey → Type 0
IsOldOrNone old new key = HasSamePage old new key ⊎ HasNoPage new key

-- the files hold for a key what they held before, nothing, or what they hold after a put
abbrev pub IsOldNoneOrNew : Files → Files → PageKey → Stamp → Answer → Type 0
IsOldNoneOrNew old new key stamp answer = HasSamePage old new key ⊎ (HasNoPage new key ⊎ HasSamePage (files_with_page old key stamp answer) new key)

-- ---- what is beside a change

-- each page is as it was
abbrev pub KeepsPages : Files → Files → Type 0
KeepsPages old new = (key : PageKey) → IsPageKey key → HasSamePage old new key

-- each page but for that of one key is as it was
abbrev pub KeepsOtherPages : Files → Files → PageKey → Type 0
KeepsOtherPages old new key = (other : PageKey) → IsPageKey other → other ≢ key → HasSamePage old new other

-- each folder's .stat file is as it was, and so is the number of the session
pub record KeepsStamps (old new : Files) : Type 0 where
  pub stats : (folder : Segments) → HaveBytes folder → file_at new (stat_name folder) ≡ file_at old (stat_name folder)
  pub epoch : epoch_held new ≡ epoch_held old

-- each file but for the two of a key's page is as it was
abbrev pub KeepsFiles : Files → Files → PageKey → Type 0
KeepsFiles old new key = (name : Text) → name ≢ page_head_name key → name ≢ page_body_name key → file_at new name ≡ file_at old name

-- ---- files after a call that failed

-- a put that failed leaves these files, whatever it asked and however it failed
abbrev pub LeftByPut : Files → Files → PageKey → Stamp → Answer → Type 0
LeftByPut old new key stamp answer = (asked : Option (List Call)) × ((made : Option (List Call)) × ((fault : FileFault) × IsPutLeft asked made (Some old) (Some new) key stamp answer fault))

-- a put that found no memory leaves these files
abbrev pub LeftByPutOutOfMemory : Files → Files → PageKey → Stamp → Answer → Type 0
LeftByPutOutOfMemory old new key stamp answer = (asked : Option (List Call)) × ((made : Option (List Call)) × IsPutLeft asked made (Some old) (Some new) key stamp answer NoMemory)

-- a drop that failed leaves these files
abbrev pub LeftByDrop : Files → Files → PageKey → Type 0
LeftByDrop old new key = (asked : Option (List Call)) × ((made : Option (List Call)) × ((fault : FileFault) × IsDropLeft asked made (Some old) (Some new) key fault))

-- ---- whatever is put, and however a put fails

-- this is so of all files, and of each answer that is put with a stamp under a key
abbrev pub OfEachPut : (Files → PageKey → Stamp → Answer → Type 0) → Type 0
OfEachPut IsSo = (files : Files) (key : PageKey) (stamp : Stamp) (answer : Answer) → IsSo files key stamp answer

-- this is so of the files before and after
abbrev pub OfFilesAndPut : (Files → Files → PageKey → Stamp → Answer → Type 0) → Type 0
OfFilesAndPut IsSo = (files new : Files) (key : PageKey) (stamp : Stamp) (answer : Answer) → IsSo files new key stamp answer

-- bytes that are written as the stamp of a folder change no page
abbrev pub StampKeepsPages : Files → Segments → Text → Type 0
StampKeepsPages files folder bytes = KeepsPages files (with_file files (stat_name folder) bytes)

-- nor do they change the number of the session
abbrev pub StampKeepsEpoch : Files → Segments → Text → Type 0
StampKeepsEpoch files folder bytes = epoch_held (with_file files (stat_name folder) bytes) ≡ epoch_held files

-- the files as a put leaves them before it writes the head: the old head is gone, and the body is there
abbrev pub files_amid_put : Files → PageKey → Text → Files
files_amid_put files key bytes = with_file (without_file files (page_head_name key)) (page_body_name key) bytes

-- the page of a key is as it was, or there is none
abbrev pub HasOldPageOrNone : Files → Files → PageKey → Type 0
HasOldPageOrNone old new key = (page_at new key ≡ page_at old key) ⊎ (page_at new key ≡ None)

-- the head of a key is as it was, or there is none
abbrev pub HasOldHeadOrNone : Files → Files → PageKey → Type 0
HasOldHeadOrNone old new key = (head_at new key ≡ head_at old key) ⊎ (head_at new key ≡ None)

-- a file that goes, but for its two, leaves the page of a key as it was
abbrev pub KeepsPageBeside : Files → PageKey → Text → Type 0
KeepsPageBeside files key name = name ≢ page_head_name key → name ≢ page_body_name key → HasSamePage files (without_file files name) key
