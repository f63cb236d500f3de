-- The stamps that the files of the docroot hold, beside the number of the session.
use Rattle.std.specs.Prelude.{◌≡◌, ◌⊎◌, ◌≤◌, ◌<◌, ◌^◌, IsTrue, Some, option_and_then}
use Rattle.sp_base.specs.Paths.{is_path}
use Rattle.sp_base.specs.Texts.{Segments}
use Rattle.sp_base.specs.declared.answer.Answer.{Answer}
use Rattle.sp_outside.specs.Files.{Files, file_at, with_file}
use Rattle.cover_rules.specs.Pages.{IsPageKey}
use Rattle.cover_rules.specs.declared.page.PageKey.{PageKey}
use Rattle.cover_rules.specs.declared.stamp.Stamp.{Stamp}
use Rattle.docroot_format.specs.Names.{HaveBytes, stat_name}
use Rattle.docroot_format.specs.Readings.{stat_of}
use Rattle.docroot_format.specs.Texts.{stat_text}
use Rattle.cache_files.specs.declared.head_note.HeadNote.{HeadNote}
use Rattle.cache_files.specs.Epochs.{epoch_held}
use Rattle.cache_files.specs.Pages.{IsPagePut, head_at}
use Rattle.cache_files.specs.Changes.{LeftByPut}

-- the head of a page has this stamp
abbrev pub IsPageStamp : Files → Stamp → Type 0
IsPageStamp files stamp = (key : PageKey) × (IsPageKey key × ((head : HeadNote) × ((head_at files key ≡ Some head) × (head.stamp ≡ stamp))))

-- the .stat file of a folder, which is a path, is of the form, and has this stamp
abbrev pub IsFolderStamp : Files → Stamp → Type 0
IsFolderStamp files stamp = (folder : Segments) × (IsTrue (is_path folder) × (HaveBytes folder × (option_and_then stat_of (file_at files (stat_name folder)) ≡ Some stamp)))

-- the files hold a stamp
abbrev pub HoldsStamp : Files → Stamp → Type 0
HoldsStamp files stamp = IsPageStamp files stamp ⊎ IsFolderStamp files stamp

-- no stamp in the files is of a session after the one whose number they hold
abbrev pub HasNoLaterStamp : Files → Type 0
HasNoLaterStamp files = (stamp : Stamp) → HoldsStamp files stamp → stamp.epoch ≤ epoch_held files

-- Stamps stay in order: where the files held none later than their session, the new ones hold none.
abbrev pub KeepsOrder : Files → Files → Type 0
KeepsOrder old new = HasNoLaterStamp old → HasNoLaterStamp new

-- a put whose stamp is of the session whose number the files hold, or of an earlier one
pub record IsSessionPut (files : Files) (key : PageKey) (stamp : Stamp) (answer : Answer) : Type 0 where
  pub page : IsPageKey key
  pub put : IsPagePut stamp answer
  pub session : stamp.epoch ≤ epoch_held files

-- a touch whose stamp is of that session, or of an earlier one
pub record IsSessionTouch (files : Files) (folder : Segments) (stamp : Stamp) : Type 0 where
  pub bytes : HaveBytes folder
  pub epoch : stamp.epoch < 2 ^ 64
  pub count : stamp.count < 2 ^ 64
  pub session : stamp.epoch ≤ epoch_held files

-- a put of the session, or of an earlier one, keeps the order of stamps also where it fails
abbrev pub FailedPutsKeepOrder : Type 0
FailedPutsKeepOrder = (files new : Files) (key : PageKey) (stamp : Stamp) (answer : Answer) → IsSessionPut files key stamp answer → LeftByPut files new key stamp answer
    → KeepsOrder files new

-- with the stamp of a folder written over them, the files hold no stamp later than the session, where they held none
abbrev pub KeepsOrderWithStamp : Files → Segments → Stamp → Type 0
KeepsOrderWithStamp files folder stamp = KeepsOrder files (with_file files (stat_name folder) (stat_text stamp))
