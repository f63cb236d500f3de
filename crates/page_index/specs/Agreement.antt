-- When notes agree with the files of the docroot, and with a flush that isn't over.
use Rattle.std.specs.Prelude.{◌≡◌, ◌⊎◌, ℕ, true, Contains, Option, Some, None}
use Rattle.sp_base.specs.Texts.{Segments}
use Rattle.sp_outside.specs.Files.{Files}
use Rattle.cover_rules.specs.Coverage.{deletes, touched_of}
use Rattle.cover_rules.specs.Pages.{IsPageKey}
use Rattle.cover_rules.specs.declared.invalidation.Invalidation.{Invalidation}
use Rattle.cover_rules.specs.declared.page.PageKey.{PageKey}
use Rattle.cover_rules.specs.declared.stamp.Stamp.{Stamp}
use Rattle.cache_files.specs.Pages.{head_at, page_at}
use Rattle.cache_files.specs.declared.head_note.HeadNote.{HeadNote}
use Rattle.cache_files.specs.declared.page.Page.{Page}
use Rattle.stat_files.specs.Stamps.{stamp_at}
use Rattle.docroot_changes.specs.Changes.{IsStampFolder}
use Rattle.page_index.specs.Notes.{head_noted, known_page, stamp_noted}
use Rattle.page_index.specs.declared.index.PageIndex.{PageIndex}

-- Each note is what the files give: the head of a page or that it has none, the page of a noted head and a noted body, and the stamp of a folder or
-- that it has none.
pub record Agrees (index : PageIndex) (files : Files) : Type 0 where
  pub heads : (key : PageKey) (head : Option HeadNote) → IsPageKey key → head_noted index key ≡ Some head → head_at files key ≡ head
  pub pages : (key : PageKey) (page : Page) → IsPageKey key → known_page index key ≡ Some page → page_at files key ≡ Some page
  pub stamps : (folder : Segments) (stamp : Option Stamp) → IsStampFolder folder → stamp_noted index folder ≡ Some stamp → stamp_at files folder ≡ stamp

-- nothing is noted that the invalidation covers: no page that it deletes, and no stamp that it touches
pub record HasNoneCovered (level : ℕ) (inv : Invalidation) (index : PageIndex) : Type 0 where
  pub pages : (key : PageKey) → IsPageKey key → deletes inv key ≡ true → head_noted index key ≡ None
  pub stamps : (folder : Segments) → IsStampFolder folder → Contains (touched_of level inv) folder → stamp_noted index folder ≡ None

-- The files changed at most in what the invalidation covers, as in a slice of a flush: pages that it deletes, and stamps that it touches.
pub record ChangesCovered (level : ℕ) (inv : Invalidation) (old new : Files) : Type 0 where
  pub pages : (key : PageKey) → IsPageKey key → (page_at new key ≡ page_at old key) ⊎ (deletes inv key ≡ true)
  pub heads : (key : PageKey) → IsPageKey key → (head_at new key ≡ head_at old key) ⊎ (deletes inv key ≡ true)
  pub stamps : (folder : Segments) → IsStampFolder folder → (stamp_at new folder ≡ stamp_at old folder) ⊎ Contains (touched_of level inv) folder

-- notes that agreed with the old files agree with the new ones
abbrev pub AgreesStill : PageIndex → Files → Files → Type 0
AgreesStill index old new = Agrees index old → Agrees index new
