-- What a call that serves makes of its inputs, of the document root and of the world.
use Rattle.std.specs.Prelude.{false, ◌≡◌, ◌≢◌, ◌≤◌, ◌<◌, ◌⊎◌, ◌∷◌, ℕ, List, [], Option, Some, IfSome, Ok, Err, length}
use Rattle.sp_base.specs.Texts.{Text}
use Rattle.sp_base.specs.Limits.{greatest_u64}
use Rattle.sp_outside.specs.Files.{Files, file_at}
use Rattle.sp_outside.specs.Causes.{Rose}
use Rattle.resource_tree.specs.Content.{Content}
use Rattle.any_config.specs.declared.farm.Farm.{Farm}
use Rattle.content_json.specs.ContentOf.{content as content_of}
use Rattle.content_json.specs.declared.fault.ContentFault.{ContentFault}
use Rattle.content_json.specs.declared.fault.ContentFault.TheVariants.{NoMemory as out_of_memory}
use Rattle.cache_files.specs.Epochs.{next_epoch}
use Rattle.cache_files.specs.declared.epoch.OpenFault.{OpenFault}
use Rattle.cache_files.specs.declared.epoch.OpenFault.TheVariants as open_fault
use Rattle.cache_log.specs.Entries.{LogEntry, Session}
use Rattle.coherence_core.specs.Holds.{HoldsClosed, files_counted}
use Rattle.coherence_core.specs.Sessions.{KeepsHolds}
use Rattle.docroot_changes.specs.Changes.{Told}
use Rattle.outside_world.specs.InputFiles.{IsLongInput, longest_input}
use Rattle.outside_world.specs.declared.inputs.InputFault.{InputFault}
use Rattle.outside_world.specs.declared.inputs.InputFault.TheVariants as input_fault
use Rattle.run_events.specs.States.{Start, start_of}
use Rattle.serve_loop.specs.Served.{HasEndCause, IsServed}
use Rattle.serve_loop.specs.declared.serving.ServeEnd.{ServeEnd}
use Rattle.sling_dispatch.specs.Farms.{farm_in, is_out_of_memory}
use Rattle.sling_dispatch.specs.Forms.{AsksFor}
use Rattle.sling_dispatch.specs.Reports.{HasFailed, HasNotFailed, IsDiskUntouched, IsUntouched, IsWorldUntouched, RunCall, StreamReport}
use Rattle.sling_dispatch.specs.Runs.{sling_publisher}
use Rattle.sling_dispatch.specs.declared.farms.FarmRefusal.{FarmRefusal}
use Rattle.sling_dispatch.specs.declared.form.Beginning.{Beginning}
use Rattle.sling_dispatch.specs.declared.form.Beginning.TheVariants.{Fresh, Warm}
use Rattle.sling_dispatch.specs.declared.form.Form.TheVariants.{Serve}
use Rattle.sling_dispatch.specs.declared.form.ServeWords.{ServeWords}

-- ---- inputs

-- the file of this name isn't too long, and this holds of it
abbrev pub HoldsInput : Files → List ℕ → (List ℕ → Type 0) → Type 0
HoldsInput held name P = (bytes : List ℕ) × (file_at held name ≡ Some bytes) × (length bytes ≤ longest_input) × P bytes

-- the same of the input of this name, where the inputs tell it
abbrev pub OfInput : StreamReport Files → List ℕ → (List ℕ → Type 0) → Type 0
OfInput inputs name P = IfSome inputs.old (λ held. HoldsInput held name P)

-- the input of this name was read whole
abbrev pub WasRead : StreamReport Files → List ℕ → Type 0
WasRead inputs name = OfInput inputs name (λ bytes. Unit {0})

-- an input of this name is read next: the content first, and the farm's file after it
abbrev pub IsNextInput : ServeWords → StreamReport Files → List ℕ → Type 0
IsNextInput words inputs name = (name ≡ words.content) ⊎ ((name ≡ words.any) × WasRead inputs words.content)

-- Why an input wasn't read: the count of the inputs rose, or it is too long.
abbrev pub IsUnread : StreamReport Files → InputFault → List ℕ → Type 0
IsUnread inputs input_fault.Failed name = HasFailed inputs
IsUnread inputs input_fault.TooLong name = HasNotFailed inputs × IfSome inputs.old (λ held. IsLongInput (file_at held name))
IsUnread inputs input_fault.NoMemory name = ⊥

-- The call is to serve these words, and has done nothing yet but to read inputs.
pub record ReadsInputs (c : RunCall) (words : ServeWords) : Type 0 where
  pub asks : AsksFor c.words (Serve words)
  pub source : IsUntouched c.source
  pub contents : c.inputs.new ≡ c.inputs.old
  pub disk : IsDiskUntouched c.disk
  pub world : IsWorldUntouched c.world

-- an input wasn't read
pub record LacksInput (c : RunCall) (fault : InputFault) (name : List ℕ) : Type 0 where
  pub words : ServeWords
  pub reads : ReadsInputs c words
  pub next : IsNextInput words c.inputs name
  pub cause : IsUnread c.inputs fault name

-- both inputs were read, and the content has no reading
pub record LacksContent (c : RunCall) (fault : ContentFault) : Type 0 where
  pub words : ServeWords
  pub reads : ReadsInputs c words
  pub not_failed : HasNotFailed c.inputs
  pub content : OfInput c.inputs words.content (λ bytes. content_of bytes ≡ Err fault)
  pub any : WasRead c.inputs words.any
  pub not_memory : fault ≢ out_of_memory

-- both inputs were read, and the content has a reading, but the farm's file has none
pub record LacksFarm (c : RunCall) (refusal : FarmRefusal) : Type 0 where
  pub words : ServeWords
  pub reads : ReadsInputs c words
  pub not_failed : HasNotFailed c.inputs
  pub content : OfInput c.inputs words.content (λ bytes. (tree : Content) × (content_of bytes ≡ Ok tree))
  pub any : OfInput c.inputs words.any (λ bytes. farm_in bytes ≡ Err refusal)
  pub not_memory : is_out_of_memory refusal ≡ false

-- The call is to serve these words, read both inputs, and they have a reading: this content, and this farm.
pub record HasInputs (asked : List Text) (source : StreamReport (List ℕ)) (inputs : StreamReport Files) (words : ServeWords) (tree : Content) (farm : Farm) : Type 0 where
  pub asks : AsksFor asked (Serve words)
  pub source_is : IsUntouched source
  pub inputs_are : IsUntouched inputs
  pub content : OfInput inputs words.content (λ bytes. content_of bytes ≡ Ok tree)
  pub any : OfInput inputs words.any (λ bytes. farm_in bytes ≡ Ok farm)

-- ---- the document root

-- The number of the session is of another form, or at its end: no session begins, and nothing changed.
pub record IsNotOpened (c : RunCall) (fault : OpenFault) : Type 0 where
  pub words : ServeWords
  pub tree : Content
  pub farm : Farm
  pub has : HasInputs c.words c.source c.inputs words tree farm
  pub next : IfSome c.disk.old (λ files. next_epoch files ≡ Err fault)
  pub not_failed : fault ≢ open_fault.Disk
  pub not_memory : fault ≢ open_fault.NoMemory
  pub disk : IsDiskUntouched c.disk
  pub world : IsWorldUntouched c.world

-- where the pages were to be kept, the logs that the files held they hold still
abbrev pub KeepsLogs : Beginning → Farm → Option Files → Option Files → Type 0
KeepsLogs Fresh farm old new = Unit {0}
KeepsLogs Warm farm old new = Told (KeepsHolds farm) old new

-- The disk failed before the first turn.
pub record FailsToOpen (c : RunCall) : Type 0 where
  pub words : ServeWords
  pub tree : Content
  pub farm : Farm
  pub has : HasInputs c.words c.source c.inputs words tree farm
  pub failed : Rose c.disk.faults_old c.disk.faults_new
  pub keeps : KeepsLogs words.beginning farm c.disk.old c.disk.new
  pub world : IsWorldUntouched c.world

-- ---- turns

-- The logs that a session may go on from, over these files: the empty one, where the pages and .stat files are dropped; else each that the
-- files hold, closed by a restart.
abbrev pub MayBeginOver : Beginning → Farm → Files → List LogEntry → Type 0
MayBeginOver Fresh farm files log = log ≡ []
MayBeginOver Warm farm files log = HoldsClosed farm files log

-- what a session begins with over these files: a log, and the session's number after it
abbrev pub served_start : Farm → Content → ℕ → Files → List LogEntry → Start
served_start farm tree epoch files log = record { publishing = sling_publisher; farm = farm; content = tree; log = Session epoch ∷ log; found = files_counted files }

-- Clients were served, with this end: a session was begun in the files with the number after the last, and from each log that it may go on
-- from a run went on, and with it the log of the world.
pub record ServesSite (c : RunCall) (words : ServeWords) (end : ServeEnd) : Type 0 where
  pub tree : Content
  pub farm : Farm
  pub has : HasInputs c.words c.source c.inputs words tree farm
  pub epoch : ℕ
  pub next : IfSome c.disk.old (λ files. next_epoch files ≡ Ok epoch)
  pub served : IfSome c.disk.old (λ files. (log : List LogEntry) → MayBeginOver words.beginning farm files log
      → IsServed (start_of (served_start farm tree epoch files log)) words.turns end c.disk c.world)
  pub cause : HasEndCause end c.world

-- ---- where nothing is in the way

-- Both inputs have a reading, the number of the session is of its form and not at its end, and neither the inputs, nor what comes next, nor
-- the disk before the first turn failed.
pub record IsServable (c : RunCall) (words : ServeWords) : Type 0 where
  pub asks : AsksFor c.words (Serve words)
  pub held : Files
  pub held_is : c.inputs.old ≡ Some held
  pub content : HoldsInput held words.content (λ bytes. (tree : Content) × (content_of bytes ≡ Ok tree))
  pub any : HoldsInput held words.any (λ bytes. (farm : Farm) × (farm_in bytes ≡ Ok farm))
  pub inputs_bounded : c.inputs.faults_old < greatest_u64
  pub inputs_kept : HasNotFailed c.inputs
  pub files : Files
  pub files_are : c.disk.old ≡ Some files
  pub epoch : ℕ
  pub next : next_epoch files ≡ Ok epoch
  pub disk_bounded : c.disk.faults_old < greatest_u64
  pub disk_kept : IsWorldUntouched c.world → c.disk.faults_new ≡ c.disk.faults_old
  pub world_bounded : c.world.next_old < greatest_u64
  pub world_kept : c.world.next_new ≡ c.world.next_old
