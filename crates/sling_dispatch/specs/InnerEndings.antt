-- Scaffolding: what the private functions of the run promise, for proofs alone. A reader of the theorem needs none of it.
use Rattle.std.specs.Prelude.{◌≡◌, ◌≢◌, ◌≤◌, ◌++◌, ◌⊎◌, ℕ, List, [], Option, Result, Ok, Err, length, take, false}
use Rattle.sp_outside.specs.Told.{held_after}
use Rattle.sp_outside.specs.Causes.{Rose}
use Rattle.sp_outside.specs.declared.sink.SinkFault.{SinkFault}
use Rattle.sp_outside.specs.declared.sink.SinkFault.TheVariants.{Failed as sink_failed, NoMemory as sink_memory}
use Rattle.resource_tree.specs.Content.{Content}
use Rattle.content_json.specs.ContentOf.{content as content_of}
use Rattle.content_json.specs.declared.fault.ContentFault.{ContentFault}
use Rattle.content_json.specs.declared.fault.ContentFault.TheVariants.{NoMemory as out_of_memory}
use Rattle.replay_text.specs.Languages.{IsRefusedWithin}
use Rattle.replay_text.specs.Scenario.{IsActs, IsScenario, ReadsScenario, longest_scenario}
use Rattle.sling_dispatch.specs.Reports.{StreamReport, HasNotFailed, HasFailed}
use Rattle.sling_dispatch.specs.Endings.{Writing, Nothing, RefusalLine, ContentLine, FarmLine, Events, Means, HasContent, IsRunOf}
use Rattle.sling_dispatch.specs.Farms.{farm_in, farm_text, is_out_of_memory}
use Rattle.any_config.specs.declared.farm.Farm.{Farm}
use Rattle.sling_dispatch.specs.declared.farms.FarmRefusal.{FarmRefusal}
use Rattle.replay_text.specs.declared.event_line.EventLine.{EventLine}
use Rattle.replay_text.specs.declared.scenario.Scenario.{Scenario}
use Rattle.sling_dispatch.specs.declared.streams.ReadFault.{ReadFault}
use Rattle.sling_dispatch.specs.declared.streams.ReadFault.TheVariants.{Failed as read_failed, NoMemory as read_memory}
use Rattle.sling_dispatch.specs.declared.ending.Ending.{Ending}
use Rattle.sling_dispatch.specs.declared.ending.Ending.TheVariants.{SinkFailed, NoMemory}

-- what is written of a text that was read, after which a longer one may go on
abbrev pub IsDueAt : List ℕ → Writing → Type 0
IsDueAt text Nothing = Unit {0}
IsDueAt text (RefusalLine before) = (rest : List ℕ) → (length text ≤ longest_scenario → rest ≡ []) → IsRefusedWithin longest_scenario IsScenario (text ++ rest) before
IsDueAt text (ContentLine fault) = (fault ≢ out_of_memory) × (s : Scenario) × ReadsScenario text s × (content_of s.content ≡ Err fault)
IsDueAt text (FarmLine refusal) = (is_out_of_memory refusal ≡ false) × (s : Scenario) × ReadsScenario text s × HasContent s × (farm_in (farm_text s.farm) ≡ Err refusal)
IsDueAt text (Events s events) = ReadsScenario text s × IsRunOf s events
IsDueAt text _ = ⊥

-- what is written of a scenario
abbrev pub IsDueIn : Scenario → Writing → Type 0
IsDueIn s Nothing = Unit {0}
IsDueIn s (ContentLine fault) = (content_of s.content ≡ Err fault) × (fault ≢ out_of_memory)
IsDueIn s (FarmLine refusal) = HasContent s × (farm_in (farm_text s.farm) ≡ Err refusal) × (is_out_of_memory refusal ≡ false)
IsDueIn s (Events t events) = (t ≡ s) × IsRunOf s events
IsDueIn s _ = ⊥

-- what a session writes
abbrev pub IsDueOf : Scenario → Writing → Type 0
IsDueOf s Nothing = Unit {0}
IsDueOf s (Events t events) = (t ≡ s) × IsRunOf s events
IsDueOf s _ = ⊥

-- nothing, or this line about a content
abbrev pub IsContentOr : ContentFault → Writing → Type 0
IsContentOr fault Nothing = Unit {0}
IsContentOr fault (ContentLine f) = (f ≡ fault) × (fault ≢ out_of_memory)
IsContentOr fault _ = ⊥

-- nothing, or this line about a farm
abbrev pub IsFarmOr : FarmRefusal → Writing → Type 0
IsFarmOr refusal Nothing = Unit {0}
IsFarmOr refusal (FarmLine r) = (r ≡ refusal) × (is_out_of_memory refusal ≡ false)
IsFarmOr refusal _ = ⊥

-- What came of writing a text, of which good was to be the ending: that, or the sink failed, or memory did.
abbrev pub TellsText : Ending → List ℕ → Ending → StreamReport (List ℕ) → Type 0
TellsText good text ending sink = ((ending ≡ good) × (sink.new ≡ held_after sink.old text) × HasNotFailed sink)
    ⊎ (((ending ≡ SinkFailed) × ((n : ℕ) × (sink.new ≡ held_after sink.old (take n text))) × HasFailed sink)
    ⊎ ((ending ≡ NoMemory) × ((n : ℕ) × (sink.new ≡ held_after sink.old (take n text))) × HasNotFailed sink))

-- how a run ends at a fault of its sink
abbrev pub ending_by : SinkFault → Ending
ending_by sink_failed = SinkFailed
ending_by sink_memory = NoMemory

-- the bytes are acts
abbrev pub AreActLines : List ℕ → Type 0
AreActLines bytes = (acts : List EventLine) × IsActs bytes acts

-- what is written where acts are played on a content by a farm, whichever scenario has them
abbrev pub PlaysAll : Content → Farm → List ℕ → Ending → StreamReport (List ℕ) → Type 0
PlaysAll tree farm acts ending sink =
    (s : Scenario) → s.acts ≡ acts → content_of s.content ≡ Ok tree → farm_in (farm_text s.farm) ≡ Ok farm → Means (IsDueOf s) ending sink

-- the same before the farm is read
abbrev pub PlaysOn : Content → Option (List ℕ) → List ℕ → Ending → StreamReport (List ℕ) → Type 0
PlaysOn tree given acts ending sink =
    (s : Scenario) → s.acts ≡ acts → s.farm ≡ given → content_of s.content ≡ Ok tree → Means (IsDueIn s) ending sink

-- A read answers Failed only where the count rose, and any other answer leaves the count.
abbrev pub HasReadCause : {T : Type 0} → ℕ → ℕ → Result T ReadFault → Type 0
HasReadCause before after (Ok _) = after ≡ before
HasReadCause before after (Err read_failed) = Rose before after
HasReadCause before after (Err read_memory) = after ≡ before

-- some of what was gathered is sent, and what is left with the text after it stays gathered
abbrev pub GathersText : Option (List ℕ) → List ℕ → Option (List ℕ) → List ℕ → List ℕ → Type 0
GathersText before gathered after left text = (sent : List ℕ) × (after ≡ held_after before sent) × (sent ++ left ≡ gathered ++ text)
