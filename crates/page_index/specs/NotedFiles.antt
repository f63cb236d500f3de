-- When notes that were made agree with the files still, and which have none that an invalidation covers.
use Rattle.std.specs.Prelude.{Option, Some, ℕ, ◌≡◌, false, Contains, option_map}
use Rattle.sp_base.specs.Texts.{Segments, Text}
use Rattle.sp_outside.specs.Files.{Files}
use Rattle.cover_rules.specs.Coverage.{deletes, touched_of}
use Rattle.cover_rules.specs.declared.invalidation.Invalidation.{Invalidation}
use Rattle.cover_rules.specs.declared.page.PageKey.{PageKey}
use Rattle.cover_rules.specs.declared.stamp.Stamp.{Stamp}
use Rattle.stat_files.specs.Stamps.{stamp_at}
use Rattle.cache_files.specs.Pages.{head_at, page_at}
use Rattle.cache_files.specs.declared.head_note.HeadNote.{HeadNote}
use Rattle.cache_files.specs.declared.page.Page.{Page}
use Rattle.page_index.specs.Agreement.{Agrees, HasNoneCovered, ChangesCovered}
use Rattle.page_index.specs.Effects.{SetsPage, SetsStamp}
use Rattle.page_index.specs.Held.{fresh_note, after_hit}
use Rattle.page_index.specs.Notes.{page_noted}
use Rattle.page_index.specs.declared.index.PageIndex.{PageIndex}

-- where the head of a page is noted as the files have it, the notes agree with them still
abbrev pub NotedHeadsAgree : Type 0
NotedHeadsAgree = (key : PageKey) (head : Option HeadNote) (bytes : ℕ) (old new : PageIndex) (files : Files) → SetsPage key bytes (Some (fresh_note key head)) old new
    → head_at files key ≡ head → Agrees old files → Agrees new files

-- none of them is covered, where the page isn't
abbrev pub NotedHeadsAreUncovered : Type 0
NotedHeadsAreUncovered = (key : PageKey) (head : Option HeadNote) (bytes : ℕ) (old new : PageIndex) (level : ℕ) (inv : Invalidation)
    → SetsPage key bytes (Some (fresh_note key head)) old new → deletes inv key ≡ false → HasNoneCovered level inv old → HasNoneCovered level inv new

-- the same of a stamp
abbrev pub NotedStampsAgree : Type 0
NotedStampsAgree = (folder : Segments) (stamp : Option Stamp) (old new : PageIndex) (files : Files) → SetsStamp folder (Some stamp) old new
    → stamp_at files folder ≡ stamp → Agrees old files → Agrees new files

-- none of them is covered, where its folder isn't touched
abbrev pub NotedStampsAreUncovered : Type 0
NotedStampsAreUncovered = (folder : Segments) (stamp : Option Stamp) (old new : PageIndex) (level : ℕ) (inv : Invalidation) → SetsStamp folder (Some stamp) old new
    → (Contains (touched_of level inv) folder → ⊥) → HasNoneCovered level inv old → HasNoneCovered level inv new

-- where a hit is counted that read the body of the page, the notes agree with the files still
abbrev pub CountedHitsAgree : Type 0
CountedHitsAgree = (key : PageKey) (body : Text) (bytes : ℕ) (page : Page) (old new : PageIndex) (files : Files)
    → SetsPage key bytes (option_map (after_hit body) (page_noted old key)) old new → page_at files key ≡ Some page → page.answer.body ≡ body
    → Agrees old files → Agrees new files

-- none of them is covered, where none was
abbrev pub CountedHitsAreUncovered : Type 0
CountedHitsAreUncovered = (key : PageKey) (body : Text) (bytes : ℕ) (old new : PageIndex) (level : ℕ) (inv : Invalidation)
    → SetsPage key bytes (option_map (after_hit body) (page_noted old key)) old new → HasNoneCovered level inv old → HasNoneCovered level inv new

-- where the files change in what an invalidation covers, and nothing covered is noted, the notes agree with the files still
abbrev pub FlushesLeaveUncoveredNotes : Type 0
FlushesLeaveUncoveredNotes = (index : PageIndex) (level : ℕ) (inv : Invalidation) (old new : Files) → ChangesCovered level inv old new → HasNoneCovered level inv index
    → Agrees index old → Agrees index new
