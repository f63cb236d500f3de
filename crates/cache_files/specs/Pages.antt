-- The pages that the files of the docroot hold, which calls of the disk put, get and drop one, and what a put or a drop that stops leaves.
use Rattle.std.specs.Prelude.{◌==◌, ◌≡◌, ◌⊎◌, ◌∷◌, ◌<◌, ◌^◌, Bool, true, false, List, [], Option, Some, None, IfSome, IsSome, IsTrue, option_and_then, option_map, length, if◌then◌else◌}
use Rattle.sp_base.specs.Texts.{Text}
use Rattle.sp_outside.specs.Calls.{Call, Get, Put, Remove, told_call, told_calls}
use Rattle.sp_outside.specs.Files.{Files, file_at, told_with, told_without, with_file, without_file}
use Rattle.sp_base.specs.declared.answer.Answer.{Answer}
use Rattle.sp_base.specs.declared.answer.Mark.TheVariants.{Plain}
use Rattle.docroot_format.specs.Faults.{IsLeftByFault}
use Rattle.docroot_format.specs.Names.{body_name, head_name}
use Rattle.docroot_format.specs.Texts.{head_text}
use Rattle.sp_base.specs.MediaTypes.{is_kind}
use Rattle.docroot_format.specs.Readings.{HeadLine, head_of}
use Rattle.docroot_format.specs.declared.fault.FileFault.{FileFault}
use Rattle.docroot_format.specs.declared.fault.FileFault.TheVariants.{Disk, NoMemory}
use Rattle.cover_rules.specs.declared.page.PageKey.{PageKey}
use Rattle.cover_rules.specs.declared.stamp.Stamp.{Stamp}
use Rattle.cache_files.specs.declared.head_note.HeadNote.{HeadNote}
use Rattle.cache_files.specs.declared.page.Page.{Page}

-- where the body of a key's page stands
abbrev pub page_body_name : PageKey → Text
page_body_name key = body_name key.folder key.file

-- where the head of a key's page stands
abbrev pub page_head_name : PageKey → Text
page_head_name key = head_name key.folder key.file

-- the head that is written for an answer with a stamp
abbrev pub page_head_text : Stamp → Answer → Text
page_head_text stamp answer = head_text stamp (length answer.body) answer.kind

-- an answer that may be stored: 200, of a media type that a head holds
pub record IsStorable (answer : Answer) : Type 0 where
  pub status : answer.status ≡ 200
  pub mark : answer.mark ≡ Plain
  pub kind : IsTrue (is_kind answer.kind)

-- what a put is given: an answer that may be stored, whose length and stamp are numbers of 64 bits, as all are in memory
pub record IsPagePut (stamp : Stamp) (answer : Answer) : Type 0 where
  pub storable : IsStorable answer
  pub epoch : stamp.epoch < 2 ^ 64
  pub count : stamp.count < 2 ^ 64
  pub size : length answer.body < 2 ^ 64

-- a page of an answer: 200, without a location
abbrev pub plain_page : Stamp → Text → Text → Page
plain_page stamp kind body = record { stamp = stamp; answer = record { status = 200; kind = kind; location = []; mark = Plain; body = body } }

-- the page that a head and a body make, where the body has the head's length
abbrev pub stored_page : HeadLine → Text → Option Page
stored_page head body = if length body == head.size then Some (plain_page head.stamp head.kind body) else None

-- the page that the files hold for a key: one whose head is of the form, and whose body has the length that the head says
abbrev pub page_at : Files → PageKey → Option Page
page_at files key = option_and_then (λ head. option_and_then (stored_page head) (file_at files (page_body_name key)))
    (option_and_then head_of (file_at files (page_head_name key)))

-- ---- a page by its head, and then its body

-- what a head says, as a note of it
abbrev pub note_of : HeadLine → HeadNote
note_of line = record { stamp = line.stamp; kind = line.kind; length = line.size }

-- the head that the files hold for a key, where it is of the form
abbrev pub head_at : Files → PageKey → Option HeadNote
head_at files key = option_map note_of (option_and_then head_of (file_at files (page_head_name key)))

-- the page that a head which was noted and a body make, where the body has the head's length
abbrev pub page_under : HeadNote → Text → Option Page
page_under head body = if length body == head.length then Some (plain_page head.stamp head.kind body) else None

-- the page that the files hold for a key under a head
abbrev pub known_at : Files → PageKey → HeadNote → Option Page
known_at files key head = option_and_then (page_under head) (file_at files (page_body_name key))

-- ---- files after a call

-- the files after a page was put: the old head was taken away, then the body written, then the head
abbrev pub files_with_page : Files → PageKey → Stamp → Answer → Files
files_with_page files key stamp answer = with_file (with_file (without_file files (page_head_name key)) (page_body_name key) answer.body) (page_head_name key) (page_head_text stamp answer)

-- the same, where the disk tells its files
abbrev pub told_with_page : Option Files → PageKey → Stamp → Answer → Option Files
told_with_page told key stamp answer = option_map (λ files. files_with_page files key stamp answer) told

-- the files after a page was taken away: its head, then its body
abbrev pub files_without_page : Files → PageKey → Files
files_without_page files key = without_file (without_file files (page_head_name key)) (page_body_name key)

-- the same, where the disk tells its files
abbrev pub told_without_page : Option Files → PageKey → Option Files
told_without_page told key = option_map (λ files. files_without_page files key) told

-- the files between two steps: the head was taken away
abbrev pub told_headless : Option Files → PageKey → Option Files
told_headless told key = told_without told (page_head_name key)

-- the files between two steps of a put: the old head was taken away, and the body written
abbrev pub told_with_body : Option Files → PageKey → Answer → Option Files
told_with_body told key answer = told_with (told_headless told key) (page_body_name key) answer.body

-- ---- calls of the disk

-- a put: the old head is taken away, the body is written, then the head
abbrev pub put_calls : PageKey → Stamp → Answer → List Call
put_calls key stamp answer = Remove (page_head_name key) true ∷ Put (page_body_name key) answer.body true ∷ Put (page_head_name key) (page_head_text stamp answer) true ∷ []

-- a get: the head is read, and where it is of the form, the body
abbrev pub get_calls : PageKey → Option HeadLine → List Call
get_calls key None = Get (page_head_name key) true ∷ []
get_calls key (Some line) = Get (page_head_name key) true ∷ Get (page_body_name key) true ∷ []

-- a drop: the head is taken away, then the body
abbrev pub drop_calls : PageKey → List Call
drop_calls key = Remove (page_head_name key) true ∷ Remove (page_body_name key) true ∷ []

-- the calls of a get of which files are told
abbrev pub page_calls : Files → PageKey → List Call
page_calls files key = get_calls key (option_and_then head_of (file_at files (page_head_name key)))

-- A reading by one call of the disk stopped: before it, out of memory; at it; or after it, out of memory.
abbrev pub IsCallLeft : Option (List Call) → Option (List Call) → (Bool → Call) → FileFault → Type 0
IsCallLeft asked made call fault =
    ((fault ≡ NoMemory) × (made ≡ asked)) ⊎ ((made ≡ told_call asked (call false)) ⊎ ((fault ≡ NoMemory) × (made ≡ told_call asked (call true))))

-- A get stopped: at its reading of the head; or, where the head was read and is of the form, at its reading of the body.
abbrev pub IsGetLeft : Option (List Call) → Option (List Call) → Option Files → PageKey → FileFault → Type 0
IsGetLeft asked made told key fault =
    IsCallLeft asked made (Get (page_head_name key)) fault
    ⊎ (IfSome told (λ files. IsSome (head_at files key)) × IsCallLeft (told_call asked (Get (page_head_name key) true)) made (Get (page_body_name key)) fault)

-- A change stopped before it asked anything of the disk, out of memory.
abbrev pub IsUnbegun : Option (List Call) → Option (List Call) → Option Files → Option Files → FileFault → Type 0
IsUnbegun asked made old new fault = (fault ≡ NoMemory) × ((made ≡ asked) × (new ≡ old))

-- A put stopped: before it asked anything of the disk, out of memory; at the removal of the old head; at the body; or at the new head.
abbrev pub IsPutLeft : Option (List Call) → Option (List Call) → Option Files → Option Files → PageKey → Stamp → Answer → FileFault → Type 0
IsPutLeft asked made old new key stamp answer fault =
    IsUnbegun asked made old new fault
    ⊎ (((fault ≡ Disk) × ((made ≡ told_calls asked (Remove (page_head_name key) false ∷ [])) × IsLeftByFault old (told_headless old key) new fault))
    ⊎ (((made ≡ told_calls asked (Remove (page_head_name key) true ∷ Put (page_body_name key) answer.body false ∷ []))
    × IsLeftByFault (told_headless old key) (told_with_body old key answer) new fault)
    ⊎ ((made ≡ told_calls asked (Remove (page_head_name key) true ∷ Put (page_body_name key) answer.body true ∷ Put (page_head_name key) (page_head_text stamp answer) false ∷ []))
    × IsLeftByFault (told_with_body old key answer) (told_with_page old key stamp answer) new fault)))

-- A drop stopped: before it asked anything of the disk, out of memory; at the removal of the head; or at that of the body.
abbrev pub IsDropLeft : Option (List Call) → Option (List Call) → Option Files → Option Files → PageKey → FileFault → Type 0
IsDropLeft asked made old new key fault =
    IsUnbegun asked made old new fault
    ⊎ (((fault ≡ Disk) × ((made ≡ told_calls asked (Remove (page_head_name key) false ∷ [])) × IsLeftByFault old (told_headless old key) new fault))
    ⊎ ((fault ≡ Disk) × ((made ≡ told_calls asked (Remove (page_head_name key) true ∷ Remove (page_body_name key) false ∷ []))
    × IsLeftByFault (told_headless old key) (told_without_page old key) new fault)))
