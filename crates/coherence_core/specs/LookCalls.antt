-- Which calls of the disk a look at a page makes. Its files are read in the order head, .stat file, body, so that a page which is outdated costs no
-- body. What is noted isn't read.
use Rattle.std.specs.Prelude.{◌≡◌, ◌⊎◌, ◌++◌, ◌∷◌, [], ◌||◌, ⊤, Bool, true, false, List, Option, Some, None, Result, Ok, Err, if◌then◌else◌, map, not}
use Rattle.sp_base.specs.Requests.{Request}
use Rattle.sp_base.specs.Texts.{Segments, Text}
use Rattle.sp_outside.specs.Calls.{Call, Get, MadeFirst, told_call, told_calls}
use Rattle.sp_outside.specs.Files.{Files}
use Rattle.any_config.specs.declared.farm.Farm.{Farm}
use Rattle.cover_rules.specs.Coverage.{stat_folder}
use Rattle.cover_rules.specs.declared.page.PageKey.{PageKey}
use Rattle.dispatch_rules.specs.Admission.{admits}
use Rattle.dispatch_rules.specs.Caching.{cache_key, is_auto}
use Rattle.docroot_format.specs.Names.{stat_name}
use Rattle.docroot_format.specs.declared.fault.FileFault.{FileFault}
use Rattle.docroot_format.specs.declared.fault.FileFault.TheVariants.{Disk, NoMemory}
use Rattle.cache_files.specs.Pages.{head_at, page_body_name, page_head_name}
use Rattle.cache_files.specs.declared.head_note.HeadNote.{HeadNote}
use Rattle.invalidation.specs.Invalidations.{is_invalidation}
use Rattle.page_index.specs.Notes.{head_noted, known_page, stamp_noted}
use Rattle.page_index.specs.declared.index.PageIndex.{PageIndex}
use Rattle.stat_files.specs.Outdated.{is_outdated}
use Rattle.coherence_core.specs.Lookups.{IfAgreed}
use Rattle.coherence_core.specs.Requests.{is_got_out_of_memory}
use Rattle.coherence_core.specs.declared.answers.Requested.{Requested}
use Rattle.coherence_core.specs.declared.core_state.Core.{Core}

-- ---- the files of a page

-- the file of this name, unless what it says is noted
abbrev pub unless_noted : {A : Type 0} → Option A → Text → List Text
unless_noted None name = name ∷ []
unless_noted (Some note) name = []

-- the head file of a page
abbrev pub head_file : PageIndex → PageKey → List Text
head_file notes key = unless_noted (head_noted notes key) (page_head_name key)

-- the .stat file of a folder
abbrev pub folder_file : PageIndex → Segments → List Text
folder_file notes folder = unless_noted (stamp_noted notes folder) (stat_name folder)

-- the .stat file that is asked for a page: none where .stat files don't outdate it
abbrev pub stat_file : PageIndex → Farm → PageKey → List Text
stat_file notes farm key = if is_auto farm key then folder_file notes (stat_folder farm.level key) else []

-- the body file of a page
abbrev pub body_file : PageIndex → PageKey → List Text
body_file notes key = unless_noted (known_page notes key) (page_body_name key)

-- the files that a look at a page may read, in their order
abbrev pub page_files : PageIndex → Farm → PageKey → List Text
page_files notes farm key = head_file notes key ++ (stat_file notes farm key ++ body_file notes key)

-- Which of them it reads once it has the head: none where there is no head; else the .stat file, and, unless that outdates the page, the body.
abbrev pub files_under : PageIndex → Farm → PageKey → Files → Option HeadNote → List Text
files_under notes farm key files None = []
files_under notes farm key files (Some head) = stat_file notes farm key ++ (if is_outdated farm.level (is_auto farm key) files key head.stamp then [] else body_file notes key)

-- which of them it reads over these files of the disk
abbrev pub files_read : PageIndex → Farm → PageKey → Files → List Text
files_read notes farm key files = head_file notes key ++ files_under notes farm key files (head_at files key)

-- ---- the calls that read them

-- the calls that read these files
abbrev pub gets : List Text → List (Bool → Call)
gets names = map (λ name. Get name) names

-- The first of these files were read, or none, and at the next one the disk failed.
abbrev pub FailsAt : Option (List Call) → Option (List Call) → List Text → Type 0
FailsAt asked made [] = ⊥
FailsAt asked made (name ∷ names) = (made ≡ told_call asked (Get name false)) ⊎ FailsAt (told_call asked (Get name true)) made names

-- These files were read one after another, and nothing else was asked of the disk. Where the disk failed, it was at one of them, and none was
-- read after it. Where memory ran out, it was at some place.
abbrev pub AreRead : {T : Type 0} → Option (List Call) → Option (List Call) → List Text → Result T FileFault → Type 0
AreRead asked made names (Ok _) = made ≡ told_calls asked (map (λ name. Get name true) names)
AreRead asked made names (Err Disk) = FailsAt asked made names
AreRead asked made names (Err NoMemory) = MadeFirst asked made (gets names)

-- Which calls a look at a page made: of the files that it may read the first ones were read, whatever is noted; and where the notes agree with the
-- files that the disk tells, those were read that it reads over them.
pub record ReadsPage {T : Type 0} (told : Option Files) (asked made : Option (List Call)) (notes : PageIndex) (farm : Farm) (key : PageKey) (result : Result T FileFault) : Type 0 where
  pub first : MadeFirst asked made (gets (page_files notes farm key))
  pub read : IfAgreed told notes (λ files. AreRead asked made (files_read notes farm key files) result)

-- ---- the calls of a request

-- the page that a request has the cache look at: the cache is up, no invalidation is asked for, the farm admits the request, and the page may be kept
abbrev pub page_asked : Core → Request → Option PageKey
page_asked core req = if core.down || is_invalidation req || not (admits core.farm req) then None else cache_key core.farm req

-- whether the disk failed in a request, or else memory ran out, as a call on files tells it
abbrev pub ended_as : Requested → Result ⊤ FileFault
ended_as requested = if requested.disk_failed then Err Disk else (if is_got_out_of_memory requested.got then Err NoMemory else Ok tt)

-- Which calls a request made: where it has the cache look at a page, those of that look, and else none.
abbrev pub AsksDisk : Option Files → Option (List Call) → Option (List Call) → Core → Option PageKey → Requested → Type 0
AsksDisk told asked made core None requested = made ≡ asked
AsksDisk told asked made core (Some key) requested = ReadsPage told asked made core.pages core.farm key (ended_as requested)
