-- The turns of a served session: which steps each has, and what of each event is handed on to the world.
use Rattle.std.specs.Prelude.{◌≡◌, ◌++◌, ℕ, Bool, true, false, if◌then◌else◌, List, [], ◌∷◌, Option, Some, None, is_some, flat_map, map}
use Rattle.std.specs.List.{find}
use Rattle.outside_world.specs.declared.world.Happening.{Happening}
use Rattle.outside_world.specs.declared.world.Happening.TheVariants.{Opened as opened_news, Piece as piece_news, Gone as gone_news, Quiet}
use Rattle.outside_world.specs.declared.world.WorldEntry.{WorldEntry}
use Rattle.outside_world.specs.declared.world.WorldEntry.TheVariants.{Came, Sent as sent_entry, Unsent, Shut as shut_entry}
use Rattle.connections.specs.Ids.{ConnectionId}
use Rattle.run_events.specs.declared.step.Pick.TheVariants.{First}
use Rattle.run_events.specs.declared.step.Step.{Step}
use Rattle.run_events.specs.declared.step.Step.TheVariants.{Opened, Piece, Gone, Render, Deliver, Purge}
use Rattle.run_events.specs.declared.note.Note.{Note}
use Rattle.run_events.specs.declared.note.Note.TheVariants.{Sent, Shut, Refused}
use Rattle.run_events.specs.declared.flying.Flushing.{Flushing}
use Rattle.run_events.specs.States.{RunState}
use Rattle.run_events.specs.Events.{Event, after_event, is_unrendered, notes_of, state_after_events}
use Rattle.serve_loop.specs.declared.handing.HandedOn.{HandedOn}
use Rattle.serve_loop.specs.declared.handing.HandedOn.TheVariants.{All, FailedAt, NoMemory}

-- ---- what is handed on

-- what a note tells the world: bytes are sent, and a connection is shut, also one for which there is no room
abbrev pub entries_of_note : Note → List WorldEntry
entries_of_note (Sent c bytes) = sent_entry c bytes ∷ []
entries_of_note (Shut c) = shut_entry c ∷ []
entries_of_note (Refused c) = shut_entry c ∷ []
entries_of_note _ = []

-- what notes tell it, in their order
abbrev pub entries_of_notes : List Note → List WorldEntry
entries_of_notes notes = flat_map entries_of_note notes

-- a sending failed: its connection is shut in its place, and no later note is handed on
pub record IsFailedAt (c : ConnectionId) (notes : List Note) (entries : List WorldEntry) : Type 0 where
  pub before : List Note
  pub bytes : List ℕ
  pub later : List Note
  pub notes_are : notes ≡ before ++ Sent c bytes ∷ later
  pub entries_are : entries ≡ entries_of_notes before ++ Unsent c ∷ shut_entry c ∷ []

-- there was no memory for a sending: the notes before it were handed on
pub record IsShort (notes : List Note) (entries : List WorldEntry) : Type 0 where
  pub before : List Note
  pub connection : ConnectionId
  pub bytes : List ℕ
  pub later : List Note
  pub notes_are : notes ≡ before ++ Sent connection bytes ∷ later
  pub entries_are : entries ≡ entries_of_notes before

-- the log of the world has these entries of an event with these notes
abbrev pub IsHandedOn : HandedOn → List Note → List WorldEntry → Type 0
IsHandedOn All notes entries = entries ≡ entries_of_notes notes
IsHandedOn (FailedAt c) notes entries = IsFailedAt c notes entries
IsHandedOn NoMemory notes entries = IsShort notes entries

-- an event, how far its notes were handed on, and what the log of the world has of it
pub record HandedEvent : Type 0 where
  pub event : Event
  pub handed : HandedOn
  pub entries : List WorldEntry

-- ---- which step is due

-- Where a turn stands: this step is due; flights are rendered, or the one that was rendered is delivered; nothing is left to do; a connection
-- on which a sending failed goes, and then the turn goes on; or memory ran out, and nothing follows.
pub data Stage : Type 0 where
  Begins : (step : Step) → Stage
  Renders : Stage
  Delivers : Stage
  Rests : Stage
  Goes : (c : ConnectionId) → (later : Stage) → Stage
  Stops : Stage

-- a turn begins with the step of what came, if that has one
abbrev pub stage_of : Happening → Stage
stage_of (opened_news c peer) = Begins (Opened c peer)
stage_of (piece_news c bytes) = Begins (Piece c bytes)
stage_of (gone_news c) = Begins (Gone c)
stage_of Quiet = Renders

-- a flight in the air isn't rendered yet
abbrev pub has_unrendered : RunState → Bool
has_unrendered w = is_some (find is_unrendered w.flights)

-- a flush is unfinished
abbrev pub is_flushing : List Flushing → Bool
is_flushing [] = false
is_flushing (flush ∷ flushes) = true

-- The step that is due: while a flight isn't rendered, the first one is rendered and then delivered; then a flush that is unfinished has one
-- slice.
abbrev pub due_step : Stage → RunState → Option Step
due_step (Begins step) w = Some step
due_step Renders w = if has_unrendered w then Some (Render First) else (if is_flushing w.flushes then Some Purge else None)
due_step Delivers w = Some (Deliver First)
due_step Rests w = None
due_step (Goes c later) w = Some (Gone c)
due_step Stops w = None

-- where a turn stands after the step that was due in this state
abbrev pub stage_after : Stage → RunState → Stage
stage_after (Begins step) w = Renders
stage_after Renders w = if has_unrendered w then Delivers else Rests
stage_after Delivers w = Renders
stage_after Rests w = Rests
stage_after (Goes c later) w = later
stage_after Stops w = Stops

-- the same once the notes of its event were handed on so far
abbrev pub stage_handed : HandedOn → Stage → Stage
stage_handed All stage = stage
stage_handed (FailedAt c) stage = Goes c stage
stage_handed NoMemory stage = Stops

-- a turn is over where no step is due; but one that memory cut may be so anywhere
abbrev pub MayRest : Bool → Stage → RunState → Type 0
MayRest true Stops w = ⊥
MayRest true stage w = due_step stage w ≡ None
MayRest false stage w = Unit {0}

-- Each event has the step that is due, its entries are what was handed on of it, and the next is due in the state after it. (That each
-- happens is said by Run.)
abbrev pub AreDue : Bool → Stage → RunState → List HandedEvent → Type 0
AreDue whole stage w [] = MayRest whole stage w
AreDue whole stage w (m ∷ made) = (due_step stage w ≡ Some m.event.step) × IsHandedOn m.handed (notes_of m.event) m.entries
    × AreDue whole (stage_handed m.handed (stage_after stage w)) (after_event w m.event) made

-- ---- turns

-- a turn: what came, and the events that were made
pub record ServedTurn : Type 0 where
  pub news : Happening
  pub made : List HandedEvent

abbrev pub events_made : List HandedEvent → List Event
events_made made = map (λ (m : HandedEvent). m.event) made

abbrev pub entries_made : List HandedEvent → List WorldEntry
entries_made made = flat_map (λ (m : HandedEvent). m.entries) made

-- the events of turns, and what the log of the world has of them
abbrev pub turn_events : List ServedTurn → List Event
turn_events turns = flat_map (λ (turn : ServedTurn). events_made turn.made) turns

abbrev pub turn_entries : List ServedTurn → List WorldEntry
turn_entries turns = flat_map (λ (turn : ServedTurn). Came turn.news ∷ entries_made turn.made) turns

-- each turn is whole
abbrev pub AreWholeTurns : RunState → List ServedTurn → Type 0
AreWholeTurns w [] = Unit {0}
AreWholeTurns w (turn ∷ turns) = AreDue true (stage_of turn.news) w turn.made × AreWholeTurns (state_after_events w (events_made turn.made)) turns

-- a turn that memory cut, if one was, as far as it got
abbrev pub IsCutTurn : RunState → Option ServedTurn → Type 0
IsCutTurn w None = Unit {0}
IsCutTurn w (Some turn) = AreDue false (stage_of turn.news) w turn.made

-- the turns, and the one that was cut
abbrev pub with_cut : List ServedTurn → Option ServedTurn → List ServedTurn
with_cut turns None = turns
with_cut turns (Some turn) = turns ++ turn ∷ []

-- what came, of the entries of a world's log
abbrev pub happenings_of : List WorldEntry → List Happening
happenings_of [] = []
happenings_of (Came news ∷ entries) = news ∷ happenings_of entries
happenings_of (_ ∷ entries) = happenings_of entries
