-- What was rendered in a run, and on which content.
use Rattle.std.specs.Prelude.{◌≡◌, ◌≢◌, ◌++◌, ◌⊎◌, Bool, true, false, List, [], ◌∷◌, Option, Some, None}
use Rattle.sp_base.specs.declared.answer.Answer.{Answer}
use Rattle.sp_base.specs.declared.answer.Ask.{Ask}
use Rattle.sp_base.specs.Requests.{Request}
use Rattle.resource_tree.specs.Content.{Content}
use Rattle.any_config.specs.declared.farm.Farm.{Farm}
use Rattle.dispatch_rules.specs.Asking.{publisher_ask}
use Rattle.http_front.specs.Faults.{insufficient_storage}
use Rattle.run_events.specs.declared.flying.Flying.{Flying}
use Rattle.run_events.specs.declared.note.Note.{Note}
use Rattle.run_events.specs.declared.note.Note.TheVariants.{Rendered}
use Rattle.connections.specs.Ids.{FlightId}
use Rattle.connections.specs.Slots.{fixed_answer}
use Rattle.run_events.specs.Publishers.{Publishing}
use Rattle.run_events.specs.States.{RunState, Start, start_of}
use Rattle.run_events.specs.Events.{Event, after_event, state_before_notes, state_after_events}
use Rattle.run_events.specs.Moves.{state_after_note, flying_at}

-- A flight was rendered: its number, its request, its answer, and whether memory ran out in that event.
pub record Rendering : Type 0 where
  pub number : FlightId
  pub request : Request
  pub answer : Answer
  pub out_of_memory : Bool

-- the rendering of the flight, if there is one
abbrev pub rendering_of : Answer → Bool → Option Flying → List Rendering
rendering_of answer out_of_memory None = []
rendering_of answer out_of_memory (Some flying) = record { number = flying.number; request = flying.request; answer = answer; out_of_memory = out_of_memory } ∷ []

-- what a note tells of it
abbrev pub rendered_by : RunState → Bool → Note → List Rendering
rendered_by w out_of_memory (Rendered number answer) = rendering_of answer out_of_memory (flying_at number w.flights)
rendered_by w out_of_memory _ = []

-- the same of notes, one after another
abbrev pub renders_in : RunState → Bool → List Note → List Rendering
renders_in w out_of_memory [] = []
renders_in w out_of_memory (note ∷ notes) = rendered_by w out_of_memory note ++ renders_in (state_after_note w note) out_of_memory notes

-- the renders of a run that begins in this state, one after another
abbrev pub renders_of : RunState → List Event → List Rendering
renders_of w [] = []
renders_of w (e ∷ events) = renders_in (state_before_notes w e e.step) e.conditions.out_of_memory e.body ++ renders_of (after_event w e) events

-- none of the publisher's own answers has the status of the fixed one
abbrev pub IsNeverFixed : Publishing → Type 0
IsNeverFixed publishing = (content : Content) (ask : Ask) → (publishing content ask).answer.status ≢ insufficient_storage

-- Each answer is the publisher's to its request, asked by the farm, on the content that the renders before it left; or, exactly where
-- memory ran out, the fixed one, and then the content stays. The last content is that after them all.
abbrev pub ArePublished : Publishing → Farm → Content → List Rendering → Content → Type 0
ArePublished publishing farm content [] last = last ≡ content
ArePublished publishing farm content (rendering ∷ renders) last =
    ((rendering.answer ≡ (publishing content (publisher_ask farm rendering.request)).answer) × (rendering.out_of_memory ≡ false) × ArePublished publishing farm (publishing content (publisher_ask farm rendering.request)).content renders last)
    ⊎ ((rendering.answer ≡ fixed_answer) × (rendering.out_of_memory ≡ true) × ArePublished publishing farm content renders last)

-- the renders of a run are published, each on the content that those before it left, and the content of the moment is what they all left
abbrev pub HasPublishedRenders : Start → List Event → Type 0
HasPublishedRenders s events = ArePublished s.publishing s.farm s.content (renders_of (start_of s) events) (state_after_events (start_of s) events).content
