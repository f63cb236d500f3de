-- Scaffolding: what the private functions of a run that serves or counts promise, for proofs alone. A reader of the theorem needs none of it.
use Rattle.std.specs.Prelude.{◌≡◌, ◌≢◌, ◌++◌, ◌∷◌, ℕ, List, [], Option, Some, None, Ok}
use Rattle.sp_base.specs.Texts.{Text}
use Rattle.sp_outside.specs.Files.{Files}
use Rattle.resource_tree.specs.Content.{Content}
use Rattle.any_config.specs.declared.farm.Farm.{Farm}
use Rattle.cache_files.specs.declared.epoch.OpenFault.{OpenFault}
use Rattle.cache_files.specs.declared.epoch.OpenFault.TheVariants as open_fault
use Rattle.cache_log.specs.Entries.{LogEntry}
use Rattle.docroot_format.specs.declared.fault.FileFault.{FileFault}
use Rattle.docroot_format.specs.declared.fault.FileFault.TheVariants as file_fault
use Rattle.front.specs.Boards.{BoardAt, at_disk}
use Rattle.front.specs.Fronts.{FrontBeginsFresh, FrontStandsFor, epoch_of_board}
use Rattle.front.specs.declared.front.Front.{Front}
use Rattle.outside_world.specs.declared.inputs.InputFault.{InputFault}
use Rattle.outside_world.specs.declared.inputs.InputFault.TheVariants as input_fault
use Rattle.outside_world.specs.declared.world.WorldEntry.{WorldEntry}
use Rattle.replay_text.specs.Scenario.{ReadsScenario}
use Rattle.replay_text.specs.declared.scenario.Scenario.{Scenario}
use Rattle.content_json.specs.ContentOf.{content as content_of}
use Rattle.run_events.specs.Events.{Event, notes_of}
use Rattle.run_events.specs.declared.note.Note.{Note}
use Rattle.run_events.specs.States.{start_of}
use Rattle.serve_loop.specs.declared.serving.ServeEnd.{ServeEnd}
use Rattle.serve_loop.specs.declared.serving.ServeEnd.TheVariants as serve_end
use Rattle.serve_loop.specs.Served.{DiskReport, WorldReport, disk_over, world_over}
use Rattle.soak_scenarios.specs.Soaks.{generated_text}
use Rattle.sling_dispatch.specs.Endings.{Writing, Nothing, Generated, Summary, OfServing, ServeWriting, Served, CutOff, WorldLine, DocrootLine, OpeningLine, InputLine, IsDue, IsReplay, Means}
use Rattle.sling_dispatch.specs.Forms.{AsksFor}
use Rattle.sling_dispatch.specs.Reports.{IsUntouched, StreamReport, IsWorldUntouched, call_of, report_over}
use Rattle.sling_dispatch.specs.Runs.{IsSession, sling_publisher}
use Rattle.sling_dispatch.specs.Serving.{MayBeginOver, OfInput, served_start, HasInputs}
use Rattle.sling_dispatch.specs.Farms.{farm_in, farm_text}
use Rattle.sling_dispatch.specs.Fronts.{IsNextEvent}
use Rattle.sling_dispatch.specs.Summaries.{counts_of, summary_text}
use Rattle.sling_dispatch.specs.declared.session.Session.{Session}
use Rattle.sling_dispatch.specs.declared.summary.Counts.{Counts}
use Rattle.sling_dispatch.specs.declared.form.Beginning.{Beginning}
use Rattle.sling_dispatch.specs.declared.form.Form.TheVariants.{Serve}
use Rattle.sling_dispatch.specs.declared.form.ServeWords.{ServeWords}
use Rattle.sling_dispatch.specs.declared.ending.Ending.{Ending}
use Rattle.sling_dispatch.specs.declared.outside.Outside.{Outside}
use Rattle.sling_dispatch.specs.declared.renderer.PublisherRenderer.{PublisherRenderer}

-- the text is the summary of all events of the scenario that was made from the number
pub record IsSummaryOf (number : ℕ) (text : List ℕ) : Type 0 where
  pub scenario : Scenario
  pub events : List Event
  pub reads : ReadsScenario (generated_text number) scenario
  pub session : IsSession scenario [] events
  pub text_is : text ≡ summary_text events

-- nothing, or the scenario that is made from the number
abbrev pub IsScenarioOr : ℕ → Writing → Type 0
IsScenarioOr number Nothing = Unit {0}
IsScenarioOr number (Generated n) = n ≡ number
IsScenarioOr number _ = ⊥

-- nothing, or the summary of all events of that scenario
abbrev pub IsSummaryOr : ℕ → Writing → Type 0
IsSummaryOr number Nothing = Unit {0}
IsSummaryOr number (Summary n s events) = (n ≡ number) × ReadsScenario (generated_text number) s × IsSession s [] events
IsSummaryOr number _ = ⊥

-- the text is the summary of all events of a scenario that was read
pub record IsSummaryIn (s : Scenario) (text : List ℕ) : Type 0 where
  pub events : List Event
  pub session : IsSession s [] events
  pub text_is : text ≡ summary_text events

-- what an event adds to counts, where there is one
abbrev pub CountsNotes : Option (List Note) → Counts → Counts → Type 0
CountsNotes None before after = after ≡ before
CountsNotes (Some notes) before after = (events : List Event) (event : Event) → before ≡ counts_of events → notes ≡ notes_of event → after ≡ counts_of (events ++ event ∷ [])

-- an act stands first, its event was made, if it has one, and was counted
pub record CountsOn (host lines rest : List ℕ) (old new : Session) (before after : Counts) : Type 0 where
  pub notes : Option (List Note)
  pub next : IsNextEvent host lines rest old new notes
  pub counted : CountsNotes notes before after

-- these are the counts of all events, where acts are played on a content by a farm, whichever scenario has them
abbrev pub CountsAll : Content → Farm → List ℕ → Counts → Type 0
CountsAll tree farm acts c = (s : Scenario) → s.acts ≡ acts → content_of s.content ≡ Ok tree → farm_in (farm_text s.farm) ≡ Ok farm
    → (events : List Event) × IsSession s [] events × (c ≡ counts_of events)

-- the call is to serve these words, and both inputs were read: this content and this farm's file
pub record AreReadAs (asked : List Text) (source : StreamReport (List ℕ)) (inputs : StreamReport Files) (words : ServeWords) (content any : List ℕ) : Type 0 where
  pub asks : AsksFor asked (Serve words)
  pub source_is : IsUntouched source
  pub inputs_are : IsUntouched inputs
  pub content_is : OfInput inputs words.content (λ bytes. bytes ≡ content)
  pub any_is : OfInput inputs words.any (λ bytes. bytes ≡ any)

-- a line about an input
abbrev pub IsInputLine : InputFault → List ℕ → ServeWriting → Type 0
IsInputLine fault name (InputLine f n) = (f ≡ fault) × (n ≡ name) × (fault ≢ input_fault.NoMemory)
IsInputLine fault name _ = ⊥

-- nothing, or that line
abbrev pub IsInputOr : InputFault → List ℕ → Writing → Type 0
IsInputOr fault name Nothing = Unit {0}
IsInputOr fault name (OfServing w) = IsInputLine fault name w
IsInputOr fault name _ = ⊥

-- a line about an opening
abbrev pub IsOpeningLine : OpenFault → ServeWriting → Type 0
IsOpeningLine fault DocrootLine = fault ≡ open_fault.Disk
IsOpeningLine fault (OpeningLine f) = (f ≡ fault) × (fault ≢ open_fault.Disk) × (fault ≢ open_fault.NoMemory)
IsOpeningLine fault _ = ⊥

-- nothing, or that line
abbrev pub IsOpeningOr : OpenFault → Writing → Type 0
IsOpeningOr fault Nothing = Unit {0}
IsOpeningOr fault (OfServing w) = IsOpeningLine fault w
IsOpeningOr fault _ = ⊥

-- what is written at an end of serving
abbrev pub IsEndLine : ServeEnd → ServeWords → ServeWriting → Type 0
IsEndLine end words (Served s) = (s ≡ words) × (end ≡ serve_end.Turns)
IsEndLine end words CutOff = end ≡ serve_end.NoMemory
IsEndLine end words WorldLine = end ≡ serve_end.WorldFailed
IsEndLine end words _ = ⊥

-- that, and nothing else
abbrev pub IsOfServeEnd : ServeEnd → ServeWords → Writing → Type 0
IsOfServeEnd end words (OfServing w) = IsEndLine end words w
IsOfServeEnd end words _ = ⊥

-- the fault of an opening where files couldn't be cleared away
abbrev pub open_fault_of : FileFault → OpenFault
open_fault_of file_fault.Disk = open_fault.Disk
open_fault_of file_fault.NoMemory = open_fault.NoMemory

-- An opened front stands for the states in which runs begin over these files, with each log that they may go on from.
abbrev pub OpensRun : Beginning → Farm → Content → Option Files → BoardAt → Content → Type 0
OpensRun beginning farm tree None b now = Unit {0}
OpensRun beginning farm tree (Some files) b now =
    (log : List LogEntry) → MayBeginOver beginning farm files log → FrontStandsFor sling_publisher now b (start_of (served_start farm tree (epoch_of_board b) files log))

-- ---- over the outside, of whose objects this says what they tell and how often they failed

-- a front opens over the disk the run that was asked for
abbrev pub OpensRunOver : {D : Type 0} → (D → Option Files) → (D → ℕ) → Beginning → Farm → Content → D → D → Front PublisherRenderer → Type 0
OpensRunOver files faults beginning farm publisher before after front = OpensRun beginning farm publisher (files before) (at_disk front.board (files after) (faults after)) front.renderer.publisher

-- a front before a publisher, which was just opened, begins a run over files that were cleared
abbrev pub SiteBeginsFresh : {D : Type 0} → (D → Option Files) → (D → ℕ) → Front PublisherRenderer → D → D → Type 0
SiteBeginsFresh files faults front before after = FrontBeginsFresh sling_publisher (λ (renderer : PublisherRenderer). renderer.publisher) files faults front before after

-- the run ends as is due of these words, with such a source and such inputs
abbrev pub EndsAsDue : {S K I D W : Type 0} → List Text → StreamReport (List ℕ) → StreamReport Files → (K → Option (List ℕ)) → (K → ℕ) → (D → Option Files) → (D → ℕ) → (W → Option (List WorldEntry)) → (W → ℕ) → (W → ℕ) → Outside S K I D W → Outside S K I D W → Ending → Type 0
EndsAsDue asked source inputs held sink_faults files disk_faults log next_faults send_faults old new ending =
    Means (IsDue (call_of asked source inputs (disk_over files disk_faults old.disk new.disk) (world_over log next_faults send_faults old.world new.world))) ending (report_over held sink_faults old.sink new.sink)

-- it ends so where these texts were read
abbrev pub EndsForTexts : {S K I D W : Type 0} → ServeWords → List ℕ → List ℕ → (K → Option (List ℕ)) → (K → ℕ) → (D → Option Files) → (D → ℕ) → (W → Option (List WorldEntry)) → (W → ℕ) → (W → ℕ) → Outside S K I D W → Outside S K I D W → Ending → Type 0
EndsForTexts words content any held sink_faults files disk_faults log next_faults send_faults old new ending = (asked : List Text) (source : StreamReport (List ℕ)) (inputs : StreamReport Files)
    → AreReadAs asked source inputs words content any → EndsAsDue asked source inputs held sink_faults files disk_faults log next_faults send_faults old new ending

-- it ends so where a text was read that gives this content, and this one for the farm
abbrev pub EndsForContent : {S K I D W : Type 0} → ServeWords → Content → List ℕ → (K → Option (List ℕ)) → (K → ℕ) → (D → Option Files) → (D → ℕ) → (W → Option (List WorldEntry)) → (W → ℕ) → (W → ℕ) → Outside S K I D W → Outside S K I D W → Ending → Type 0
EndsForContent words publisher any held sink_faults files disk_faults log next_faults send_faults old new ending = (asked : List Text) (source : StreamReport (List ℕ)) (inputs : StreamReport Files) (content : List ℕ)
    → content_of content ≡ Ok publisher → AreReadAs asked source inputs words content any → EndsAsDue asked source inputs held sink_faults files disk_faults log next_faults send_faults old new ending

-- it ends so where the inputs give this content and this farm
abbrev pub EndsForSite : {S K I D W : Type 0} → ServeWords → Content → Farm → (K → Option (List ℕ)) → (K → ℕ) → (D → Option Files) → (D → ℕ) → (W → Option (List WorldEntry)) → (W → ℕ) → (W → ℕ) → Outside S K I D W → Outside S K I D W → Ending → Type 0
EndsForSite words publisher farm held sink_faults files disk_faults log next_faults send_faults old new ending = (asked : List Text) (source : StreamReport (List ℕ)) (inputs : StreamReport Files)
    → HasInputs asked source inputs words publisher farm → EndsAsDue asked source inputs held sink_faults files disk_faults log next_faults send_faults old new ending

-- a scenario that a source holds is replayed, whatever the inputs and the disk, and the world is untouched: the run ends as is due
abbrev pub ReplaysSource : {S K : Type 0} → (S → Option (List ℕ)) → (S → ℕ) → (K → Option (List ℕ)) → (K → ℕ) → S → S → K → K → Ending → Type 0
ReplaysSource left source_faults held sink_faults source after sink written ending = (asked : List Text) (inputs : StreamReport Files) (disk : DiskReport) (world : WorldReport) → IsReplay asked → IsWorldUntouched world
    → Means (IsDue (call_of asked (report_over left source_faults source after) inputs disk world)) ending (report_over held sink_faults sink written)

-- it ends so where these words were asked for, whatever the source, which is untouched
abbrev pub EndsForWords : {S K I D W : Type 0} → ServeWords → (I → Option Files) → (I → ℕ) → (K → Option (List ℕ)) → (K → ℕ) → (D → Option Files) → (D → ℕ) → (W → Option (List WorldEntry)) → (W → ℕ) → (W → ℕ) → Outside S K I D W → Outside S K I D W → Ending → Type 0
EndsForWords words contents input_faults held sink_faults files disk_faults log next_faults send_faults old new ending = (asked : List Text) (source : StreamReport (List ℕ))
    → AsksFor asked (Serve words) → IsUntouched source
    → EndsAsDue asked source (report_over contents input_faults old.inputs new.inputs) held sink_faults files disk_faults log next_faults send_faults old new ending
