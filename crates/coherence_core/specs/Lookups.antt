-- What a look at a page notes of it.
use Rattle.std.specs.Prelude.{◌≡◌, ℕ, true, Contains, List, Option, Some, Result, IfSome, ◌&&◌, Bool}
use Rattle.sp_base.specs.Texts.{Segments, Text}
use Rattle.sp_base.specs.declared.answer.Answer.{Answer}
use Rattle.sp_outside.specs.Calls.{Call}
use Rattle.sp_outside.specs.Files.{Files}
use Rattle.cover_rules.specs.Coverage.{deletes, touched_of}
use Rattle.cover_rules.specs.Pages.{IsPageKey}
use Rattle.cover_rules.specs.declared.invalidation.Invalidation.{Invalidation}
use Rattle.cover_rules.specs.declared.page.PageKey.{PageKey}
use Rattle.cover_rules.specs.declared.stamp.Stamp.{Stamp}
use Rattle.docroot_format.specs.Faults.{HasFileCause}
use Rattle.docroot_format.specs.declared.fault.FileFault.{FileFault}
use Rattle.cache_files.specs.Pages.{head_at, page_at}
use Rattle.cache_files.specs.declared.head_note.HeadNote.{HeadNote}
use Rattle.cache_files.specs.declared.page.Page.{Page}
use Rattle.dispatch_rules.specs.Caching.{is_auto}
use Rattle.docroot_changes.specs.DocrootCalls.{MakesDocrootCalls}
use Rattle.page_index.specs.Agreement.{Agrees, HasNoneCovered}
use Rattle.page_index.specs.declared.index.PageIndex.{PageIndex}
use Rattle.stat_files.specs.Stamps.{stamp_at}
use Rattle.stat_files.specs.Outdated.{outdates_page}
use Rattle.coherence_core.specs.Notes.{AreNotesUncovered}
use Rattle.coherence_core.specs.Served.{stat_for, served}
use Rattle.coherence_core.specs.declared.look.Look.{Look}

-- Something is noted, of which this may be so and which these invalidations cover: where it is so of files, notes that agreed with them do so
-- still; and what covered nothing of the notes covers nothing still, unless it covers this.
pub record NotesThis (IsSo : Files → Type 0) (IsCovered : ℕ → Invalidation → Type 0) (old new : PageIndex) : Type 0 where
  pub agree : (files : Files) → IsSo files → Agrees old files → Agrees new files
  pub apart : (level : ℕ) (inv : Invalidation) → (IsCovered level inv → ⊥) → HasNoneCovered level inv old → HasNoneCovered level inv new

-- nothing covers it
abbrev pub IsNeverCovered : ℕ → Invalidation → Type 0
IsNeverCovered level inv = ⊥

-- the invalidation deletes the page
abbrev pub IsDeleted : PageKey → ℕ → Invalidation → Type 0
IsDeleted key level inv = deletes inv key ≡ true

-- the invalidation touches the folder
abbrev pub IsTouchedFolder : Segments → ℕ → Invalidation → Type 0
IsTouchedFolder folder level inv = Contains (touched_of level inv) folder

-- this is noted as the head of the key's page, or that it has none
abbrev pub NotesHead : PageKey → Option HeadNote → PageIndex → PageIndex → Type 0
NotesHead key head = NotesThis (λ files. head_at files key ≡ head) (IsDeleted key)

-- a hit of the key's page is counted, which has this body, and its body may be noted
abbrev pub NotesHit : PageKey → Text → PageIndex → PageIndex → Type 0
NotesHit key body = NotesThis (λ files. (page : Page) × ((page_at files key ≡ Some page) × (page.answer.body ≡ body))) IsNeverCovered

-- this is noted as the folder's stamp, or that it has none
abbrev pub NotesStamp : Segments → Option Stamp → PageIndex → PageIndex → Type 0
NotesStamp folder stamp = NotesThis (λ files. stamp_at files folder ≡ stamp) (IsTouchedFolder folder)

-- What a look at a page notes of it, over the files of a disk that tells them: notes that agreed with the files do so still; and where no
-- unfinished flush covered any of them, none does still.
pub record NotesPage (look : Look) (told : Option Files) (old new : PageIndex) : Type 0 where
  pub agree : IfSome told (λ files. Agrees old files → Agrees new files)
  pub apart : AreNotesUncovered look.farm.now.level old look.queue.now.items → AreNotesUncovered look.farm.now.level new look.queue.now.items

-- this is so of the files of a disk, where it tells them and the notes agree with them
abbrev pub IfAgreed : Option Files → PageIndex → (Files → Type 0) → Type 0
IfAgreed told notes IsSo = IfSome told (λ files. Agrees notes files → IsSo files)

-- ---- what a look goes by, and what it leaves of the disk

-- What is said of a look at a page: it is the page of a key, and .stat files outdate it where the farm says so.
pub record IsLook (look : Look) : Type 0 where
  pub page : IsPageKey look.key.now
  pub auto : look.auto ≡ is_auto look.farm.now look.key.now

-- the stamp of the .stat file that is asked for the page
abbrev pub stat_asked : Look → Files → Option Stamp
stat_asked look files = stat_for look.farm.now (stamp_at files) look.key.now

-- The files of a disk were only read: they are as they were, the fault is told by the disk's count, and only calls were made that the cache
-- may make.
pub record ReadsFiles {T : Type 0} (told after : Option Files) (faults now : ℕ) (asked made : Option (List Call)) (result : Result T FileFault) : Type 0 where
  pub files : after ≡ told
  pub cause : HasFileCause faults now result
  pub calls : MakesDocrootCalls asked made

-- what was found is what these files serve
abbrev pub GivesServed : Look → Option Answer → Files → Type 0
GivesServed look found files = served look.auto (stat_asked look files) (page_at files look.key.now) ≡ found

-- whether its .stat file among these files outdates a page with this stamp
abbrev pub TellsOutdated : Look → Stamp → Bool → Files → Type 0
TellsOutdated look page is files = (look.auto && outdates_page (stat_asked look files) page) ≡ is
