-- How a run may end, and what each ending says of the source and the sink.
use Rattle.std.specs.Prelude.{false, ◌≡◌, ◌≢◌, ◌+◌, ◌++◌, ◌⊎◌, ℕ, List, [], ◌∷◌, Option, IfSome, Ok, Err, codes, take}
use Rattle.std.specs.Fmt.{decimal}
use Rattle.sp_base.specs.Texts.{Text}
use Rattle.sp_outside.specs.Told.{held_after, IsAtEnd}
use Rattle.resource_tree.specs.Content.{Content}
use Rattle.content_json.specs.ContentOf.{content as content_of}
use Rattle.content_json.specs.declared.fault.ContentFault.{ContentFault}
use Rattle.content_json.specs.declared.fault.ContentFault.TheVariants.{NoMemory as out_of_memory}
use Rattle.cache_files.specs.declared.epoch.OpenFault.{OpenFault}
use Rattle.cache_files.specs.declared.epoch.OpenFault.TheVariants as open_fault
use Rattle.outside_world.specs.declared.inputs.InputFault.{InputFault}
use Rattle.outside_world.specs.declared.world.WorldFault.TheVariants as world_fault
use Rattle.sp_outside.specs.declared.source.SourceFault.TheVariants as source_fault
use Rattle.replay_text.specs.declared.scenario.ScenarioFault.TheVariants as scenario_fault
use Rattle.cache_files.specs.FaultTexts.{open_fault_text}
use Rattle.outside_world.specs.FaultTexts.{input_fault_text, world_fault_text}
use Rattle.sp_outside.specs.FaultTexts.{source_fault_text}
use Rattle.replay_text.specs.FaultTexts.{scenario_fault_text}
use Rattle.serve_loop.specs.declared.serving.ServeEnd.TheVariants as serve_end
use Rattle.soak_scenarios.specs.Soaks.{generated_text}
use Rattle.replay_text.specs.Languages.{IsRefusedWithin}
use Rattle.replay_text.specs.Scenario.{IsScenario, ReadsScenario, longest_scenario}
use Rattle.sling_dispatch.specs.Forms.{AsksFor, HasForm}
use Rattle.sling_dispatch.specs.Reports.{HasFailed, HasNotFailed, IsUntouched, IsWorldUntouched, RunCall, StreamReport}
use Rattle.sling_dispatch.specs.Runs.{IsSession, told_of_events}
use Rattle.sling_dispatch.specs.Serving.{FailsToOpen, IsNotOpened, LacksContent, LacksFarm, LacksInput, ServesSite}
use Rattle.sling_dispatch.specs.Streams.{IsReadOut}
use Rattle.sling_dispatch.specs.Summaries.{summary_text}
use Rattle.sling_dispatch.specs.Farms.{farm_in, farm_text, is_out_of_memory}
use Rattle.content_json.specs.FaultTexts.{fault_text}
use Rattle.sling_dispatch.specs.Faults.{refusal_text}
use Rattle.any_config.specs.declared.farm.Farm.{Farm}
use Rattle.sling_dispatch.specs.declared.farms.FarmRefusal.{FarmRefusal}
use Rattle.sling_dispatch.specs.declared.form.ServeWords.{ServeWords}
use Rattle.sling_dispatch.specs.declared.form.Form.TheVariants as form
use Rattle.replay_text.specs.declared.event_line.EventLine.{EventLine}
use Rattle.replay_text.specs.declared.scenario.Scenario.{Scenario}
use Rattle.run_events.specs.Events.{Event}
use Rattle.sling_dispatch.specs.declared.ending.Ending.{Ending}
use Rattle.sling_dispatch.specs.declared.ending.Ending.TheVariants.{Done, Usage, SourceFailed, SinkFailed, Refused, ContentRefused, FarmRefused, DocrootFailed, WorldFailed, InputFailed, NotOpened, NoMemory}

-- What a call that serves may be writing: how many turns were served; nothing more, where memory ran out in a turn; that the world or the
-- docroot failed; why no session begins; why an input of this name wasn't read.
pub data ServeWriting : Type 0 where
  Served : ServeWords → ServeWriting
  CutOff : ServeWriting
  WorldLine : ServeWriting
  DocrootLine : ServeWriting
  OpeningLine : OpenFault → ServeWriting
  InputLine : InputFault → (name : List ℕ) → ServeWriting

-- what a call may be writing: of a refusal how many newlines stand before its place, of a content its fault, of a farm why there is none; the
-- scenario of a number, and the summary of its events
pub data Writing : Type 0 where
  Nothing : Writing
  UsageLine : Writing
  SourceLine : Writing
  RefusalLine : ℕ → Writing
  ContentLine : ContentFault → Writing
  FarmLine : FarmRefusal → Writing
  Events : Scenario → List Event → Writing
  Generated : (number : ℕ) → Writing
  Summary : (number : ℕ) → Scenario → List Event → Writing
  OfServing : ServeWriting → Writing

-- the text of what is written of serving
abbrev pub serving_output : ServeWriting → List ℕ
serving_output (Served words) = codes "served " ++ decimal words.turns ++ 10 ∷ []
serving_output CutOff = []
serving_output WorldLine = world_fault_text world_fault.Failed ++ 10 ∷ []
serving_output DocrootLine = open_fault_text open_fault.Disk ++ 10 ∷ []
serving_output (OpeningLine fault) = open_fault_text fault ++ 10 ∷ []
serving_output (InputLine fault name) = input_fault_text fault ++ codes ": " ++ name ++ 10 ∷ []

-- the text of what is written
abbrev pub output_of : Writing → List ℕ
output_of Nothing = []
output_of UsageLine = codes "usage: replay | soak N | scenario N | serve CONTENT ANY TURNS fresh|warm" ++ 10 ∷ []
output_of SourceLine = source_fault_text source_fault.Failed ++ 10 ∷ []
output_of (RefusalLine before) = scenario_fault_text (scenario_fault.Line before) ++ 10 ∷ []
output_of (ContentLine fault) = codes "content refused: " ++ fault_text fault ++ 10 ∷ []
output_of (FarmLine refusal) = codes "farm refused: " ++ refusal_text refusal ++ 10 ∷ []
output_of (Events s events) = told_of_events events
output_of (Generated number) = generated_text number
output_of (Summary number s events) = summary_text events
output_of (OfServing w) = serving_output w

-- the whole text was written
abbrev pub HasWritten : StreamReport (List ℕ) → Writing → Type 0
HasWritten sink w = (sink.new ≡ held_after sink.old (output_of w)) × HasNotFailed sink

-- a prefix of it was
abbrev pub HasWrittenPrefix : StreamReport (List ℕ) → Writing → Type 0
HasWrittenPrefix sink w = (n : ℕ) × (sink.new ≡ held_after sink.old (take n (output_of w)))

-- A run that serves ends so where all of this was written; a turn that was cut off is no ending's.
abbrev pub EndsServing : ServeWriting → Ending → Type 0
EndsServing (Served words) ending = ending ≡ Done
EndsServing CutOff ending = ⊥
EndsServing WorldLine ending = ending ≡ WorldFailed
EndsServing DocrootLine ending = ending ≡ DocrootFailed
EndsServing (OpeningLine fault) ending = ending ≡ NotOpened
EndsServing (InputLine fault name) ending = ending ≡ InputFailed

-- The run ends so where all of this was written; nothing is no ending's.
abbrev pub EndsIn : Writing → Ending → Type 0
EndsIn Nothing ending = ⊥
EndsIn UsageLine ending = ending ≡ Usage
EndsIn SourceLine ending = ending ≡ SourceFailed
EndsIn (RefusalLine before) ending = ending ≡ Refused
EndsIn (ContentLine fault) ending = ending ≡ ContentRefused
EndsIn (FarmLine refusal) ending = ending ≡ FarmRefused
EndsIn (Events s events) ending = (ending ≡ Done) × IsSession s [] events
EndsIn (Generated number) ending = ending ≡ Done
EndsIn (Summary number s events) ending = (ending ≡ Done) × IsSession s [] events
EndsIn (OfServing w) ending = EndsServing w ending

-- what is due was written whole, and the run ends as after that
pub record WholeEnding (IsDue : Writing → Type 0) (ending : Ending) (sink : StreamReport (List ℕ)) : Type 0 where
  pub writing : Writing
  pub due : IsDue writing
  pub ends : EndsIn writing ending
  pub wrote : HasWritten sink writing

-- a prefix of what is due was written
pub record Broken (IsDue : Writing → Type 0) (sink : StreamReport (List ℕ)) : Type 0 where
  pub writing : Writing
  pub due : IsDue writing
  pub wrote : HasWrittenPrefix sink writing

-- What each ending says of the sink, where IsDue says what may be written: the sink failed, or memory did, or all was written.
abbrev pub Means : (Writing → Type 0) → Ending → StreamReport (List ℕ) → Type 0
Means IsDue SinkFailed sink = Broken IsDue sink × HasFailed sink
Means IsDue NoMemory sink = Broken IsDue sink × HasNotFailed sink
Means IsDue ending sink = WholeEnding IsDue ending sink

-- these are first events of the scenario
abbrev pub IsRunOf : Scenario → List Event → Type 0
IsRunOf s events = (left : List EventLine) × IsSession s left events

-- the content of the scenario has a reading
abbrev pub HasContent : Scenario → Type 0
HasContent s = (tree : Content) × (content_of s.content ≡ Ok tree)

-- so has its farm, or the standard one
abbrev pub HasFarm : Scenario → Type 0
HasFarm s = (farm : Farm) × (farm_in (farm_text s.farm) ≡ Ok farm)

-- the words are `replay` alone
abbrev pub IsReplay : List Text → Type 0
IsReplay words = words ≡ codes "replay" ∷ []

-- these are the words of the command line, where it tells them
abbrev pub AreWordsOf : Option (List Text) → List Text → Type 0
AreWordsOf told words = IfSome told (λ all. words ≡ all)

-- the call replays, no read failed, and of the source's bytes, where it tells them, this holds
abbrev pub Replays : RunCall → (List ℕ → Type 0) → Type 0
Replays c P = IsReplay c.words × HasNotFailed c.source × IfSome c.source.old P

-- what may be written by a call that serves
abbrev pub IsServingDue : RunCall → ServeWriting → Type 0
IsServingDue c (Served words) = ServesSite c words serve_end.Turns
IsServingDue c CutOff = (words : ServeWords) × ServesSite c words serve_end.NoMemory
IsServingDue c WorldLine = (words : ServeWords) × ServesSite c words serve_end.WorldFailed
IsServingDue c DocrootLine = FailsToOpen c
IsServingDue c (OpeningLine fault) = IsNotOpened c fault
IsServingDue c (InputLine fault name) = LacksInput c fault name

-- What may be written by a call. Each line denies the causes of those before it.
abbrev pub IsDue : RunCall → Writing → Type 0
IsDue c Nothing = IsWorldUntouched c.world
IsDue c UsageLine = (HasForm c.words → ⊥) × IsUntouched c.source
IsDue c SourceLine = IsReplay c.words × HasFailed c.source
IsDue c (RefusalLine before) = Replays c (λ bytes. IsRefusedWithin longest_scenario IsScenario bytes before) × IsReadOut (longest_scenario + 1) c.source.old c.source.new
IsDue c (ContentLine fault) = (Replays c (λ bytes. (s : Scenario) × ReadsScenario bytes s × (content_of s.content ≡ Err fault)) × IsAtEnd c.source.new
    × (fault ≢ out_of_memory)) ⊎ LacksContent c fault
IsDue c (FarmLine refusal) = (Replays c (λ bytes. (s : Scenario) × ReadsScenario bytes s × HasContent s × (farm_in (farm_text s.farm) ≡ Err refusal))
    × IsAtEnd c.source.new × (is_out_of_memory refusal ≡ false)) ⊎ LacksFarm c refusal
IsDue c (Events s events) = Replays c (λ bytes. ReadsScenario bytes s) × IsAtEnd c.source.new × IsRunOf s events
IsDue c (Generated number) = AsksFor c.words (form.Scenario number) × IsUntouched c.source
IsDue c (Summary number s events) = AsksFor c.words (form.Soak number) × IsUntouched c.source × ReadsScenario (generated_text number) s × IsRunOf s events
IsDue c (OfServing w) = IsServingDue c w

-- the exit status of an ending
abbrev pub ending_status : Ending → ℕ
ending_status Done = 0
ending_status Usage = 2
ending_status SourceFailed = 3
ending_status SinkFailed = 4
ending_status Refused = 5
ending_status ContentRefused = 6
ending_status FarmRefused = 7
ending_status DocrootFailed = 8
ending_status WorldFailed = 9
ending_status InputFailed = 10
ending_status NotOpened = 11
ending_status NoMemory = 70
