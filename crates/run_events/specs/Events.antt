-- Events, and runs of them.
use Rattle.std.specs.Prelude.{◌≡◌, ◌<◌, ◌+◌, ◌-◌, ◌++◌, ◌⊎◌, ◌&&◌, ℕ, Bool, true, false, not, nat_eq, nat_le, if◌then◌else◌, List, [], ◌∷◌, Option, Some, None, is_some}
use Rattle.std.specs.List.{find}
use Rattle.std.specs.Map.{update}
use Rattle.sp_base.specs.Limits.{greatest_u64}
use Rattle.sp_base.specs.declared.answer.Answer.{Answer}
use Rattle.cover_rules.specs.declared.page.PageKey.{PageKey}
use Rattle.http_front.specs.Turns.{End, SpellsTurns}
use Rattle.http_front.specs.declared.turn.Turn.{Turn}
use Rattle.cache_log.specs.Rules.{HasFallenShort, KeepsBound, MayStore}
use Rattle.connections.specs.Connections.{Connection, with_piece, fresh}
use Rattle.connections.specs.Ids.{ConnectionId}
use Rattle.connections.specs.Slots.{fixed_answer}
use Rattle.run_events.specs.declared.conditions.Conditions.{Conditions}
use Rattle.run_events.specs.declared.flying.Flying.{Flying}
use Rattle.run_events.specs.declared.flying.Flushing.{Flushing}
use Rattle.run_events.specs.declared.step.Pick.{Pick}
use Rattle.run_events.specs.declared.step.Pick.TheVariants.{Number, First}
use Rattle.run_events.specs.declared.step.Step.{Step}
use Rattle.run_events.specs.declared.step.Step.TheVariants.{Opened, Piece, Gone, Direct, Render, Deliver, Lose, Purge, Restart}
use Rattle.run_events.specs.declared.note.Note.{Note}
use Rattle.run_events.specs.declared.note.Note.TheVariants.{Answer as answered, Rendered, Kept, Unkept, Passed, Lost, Refused, Idle, Hurt, OutOfMemory}
use Rattle.run_events.specs.Publishers.{direct_answer}
use Rattle.run_events.specs.States.{RunState}
use Rattle.run_events.specs.Points.{call_conditions, key_of}
use Rattle.run_events.specs.Moves.{GivesSlice, Settles, state_after_note, state_after_notes, on_connection, has_number, published_for}
use Rattle.run_events.specs.Restarts.{Restarts, without_connections}
use Rattle.run_events.specs.Causes.{ShowsIfOutOfMemory, SpoilAtMost}
use Rattle.sp_outside.specs.Causes.{IsDiskFailure}

-- An event: its step, its notes but for those that name what it ran under, and that. Of a piece it tells which further turns its
-- connection's stream now spells, and how they end.
pub record Event : Type 0 where
  pub step : Step
  pub body : List Note
  pub conditions : Conditions
  pub turns : List Turn
  pub ends : End

-- the notes that name what an event ran under: `Hurt` where the disk failed, and then `OutOfMemory` where memory ran out
abbrev pub condition_notes : Conditions → List Note
condition_notes m = (if m.disk_failed then Hurt ∷ [] else []) ++ (if m.out_of_memory then OutOfMemory ∷ [] else [])

-- the notes of an event: those that name what it ran under are last
abbrev pub notes_of : Event → List Note
notes_of e = e.body ++ condition_notes e.conditions

-- ---- what a step does before any note

-- the most connections
abbrev pub most_connections : ℕ
most_connections = 256

-- the connection is there, where there is room
abbrev pub state_after_opening : RunState → ConnectionId → List ℕ → Option Connection → RunState
state_after_opening w c peer (Some connection) = w
state_after_opening w c peer None = if nat_le most_connections w.connection_count then w else record w { connection = update nat_eq w.connection c (Some (fresh peer)); connection_count = w.connection_count + 1 }

-- the connection isn't there any more
abbrev pub state_after_going : RunState → ConnectionId → Option Connection → RunState
state_after_going w c None = w
state_after_going w c (Some connection) = record w { connection = update nat_eq w.connection c None; connection_count = w.connection_count - 1 }

-- the state once a step has begun, before its notes
abbrev pub state_before_notes : RunState → Event → Step → RunState
state_before_notes w e (Opened c peer) = state_after_opening w c peer (w.connection c)
state_before_notes w e (Piece c bytes) = on_connection w c (with_piece bytes e.turns e.ends)
state_before_notes w e (Gone c) = state_after_going w c (w.connection c)
state_before_notes w e Restart = without_connections w
state_before_notes w e _ = w

-- the state after an event
abbrev pub after_event : RunState → Event → RunState
after_event w e = state_after_notes (state_before_notes w e e.step) e.body

-- ---- the flight that a step takes

-- the flight is one of those that are asked for
abbrev pub is_picked : Pick → Flying → Bool
is_picked (Number number) flying = has_number number flying
is_picked First flying = true

-- the first flight that is asked for and can be taken: with `First` the one with the least number
abbrev pub picked_flight : Pick → (Flying → Bool) → List Flying → Option Flying
picked_flight pick can flights = find (λ flying. is_picked pick flying && can flying) flights

-- the flight has an answer
abbrev pub is_rendered : Flying → Bool
is_rendered flying = is_some flying.rendered

-- the flight has none yet
abbrev pub is_unrendered : Flying → Bool
is_unrendered flying = not (is_rendered flying)

-- any flight
abbrev pub is_any : Flying → Bool
is_any flying = true

-- ---- the notes of each step

-- the notes of an opening: it does nothing where the connection is there, and is refused where there is no room
abbrev pub opening : ConnectionId → ℕ → Option Connection → List Note
opening c count (Some connection) = Idle ∷ []
opening c count None = if nat_le most_connections count then Refused c ∷ [] else []

-- the notes of a client that goes: it does nothing where the connection isn't there
abbrev pub going : Option Connection → List Note
going None = Idle ∷ []
going (Some connection) = []

-- The stream spells these turns now too, and ends so, unless it is read no further; and the connection gets what it is owed.
pub record PieceFeeds (w : RunState) (e : Event) (c : ConnectionId) (bytes : List ℕ) (connection : Connection) : Type 0 where
  pub spells : connection.closing ≡ false → SpellsTurns (connection.stream ++ bytes) (connection.turns ++ e.turns) e.ends
  pub settles : Settles e.conditions (on_connection w c (with_piece bytes e.turns e.ends)) c e.body

-- a piece does nothing where the connection isn't there
abbrev pub PieceTo : RunState → Event → ConnectionId → List ℕ → Option Connection → Type 0
PieceTo w e c bytes None = e.body ≡ Idle ∷ []
PieceTo w e c bytes (Some connection) = PieceFeeds w e c bytes connection

-- the answer that is wanted, or in its place the fixed one: memory ran out exactly where that stands there
abbrev pub IsOrFixed : Conditions → Answer → Answer → Type 0
IsOrFixed m answer wanted = ((answer ≡ wanted) × (m.out_of_memory ≡ false)) ⊎ ((answer ≡ fixed_answer) × (m.out_of_memory ≡ true))

-- the publisher's answer to the target, on the content of this moment
abbrev pub DirectTo : RunState → Event → List ℕ → Type 0
DirectTo w e target = (answer : Answer) × IsOrFixed e.conditions answer (direct_answer w.publishing w.farm w.content target) × (e.body ≡ answered answer ∷ [])

-- the publisher's answer to the flight's request, on the content of this moment
abbrev pub RenderTo : RunState → Event → Option Flying → Type 0
RenderTo w e None = e.body ≡ Idle ∷ []
RenderTo w e (Some flying) = (answer : Answer) × IsOrFixed e.conditions answer (published_for w flying.request).answer × (e.body ≡ Rendered flying.number answer ∷ [])

-- a first note, and then what its connection is owed
pub record LeadsNotes (w : RunState) (m : Conditions) (first : Note) (c : ConnectionId) (notes : List Note) : Type 0 where
  pub rest : List Note
  pub begins : notes ≡ first ∷ rest
  pub settles : Settles m (state_after_note w first) c rest

-- Which note a landing has (RFC 9111, section 3): its answer is kept for its page where it may be stored; or, where the disk failed or memory
-- ran out, it may be kept or not; and it is passed on where it may not be stored.
abbrev pub MayLand : RunState → Conditions → Flying → Answer → Note → Type 0
MayLand w m flying answer note = ((key : PageKey) × (key_of w flying.request ≡ Some key) × (note ≡ Kept flying.number key) × MayStore w.farm w.log flying.number (Some key) answer)
    ⊎ (((note ≡ Unkept flying.number) × MayStore w.farm w.log flying.number (key_of w flying.request) answer × HasFallenShort (call_conditions m false))
    ⊎ ((note ≡ Passed flying.number) × (MayStore w.farm w.log flying.number (key_of w flying.request) answer → ⊥)))

-- a landing with this answer; it does nothing where the flight has none
abbrev pub DeliverAs : RunState → Event → Flying → Option Answer → Type 0
DeliverAs w e flying None = e.body ≡ Idle ∷ []
DeliverAs w e flying (Some answer) = (note : Note) × MayLand w e.conditions flying answer note × LeadsNotes w e.conditions note flying.connection e.body

-- a landing of the flight; it does nothing where there is none
abbrev pub DeliverTo : RunState → Event → Option Flying → Type 0
DeliverTo w e None = e.body ≡ Idle ∷ []
DeliverTo w e (Some flying) = DeliverAs w e flying flying.rendered

-- a loss of the flight, and then what its connection is owed; it does nothing where there is none
abbrev pub LoseTo : RunState → Event → Option Flying → Type 0
LoseTo w e None = e.body ≡ Idle ∷ []
LoseTo w e (Some flying) = LeadsNotes w e.conditions (Lost flying.number) flying.connection e.body

-- a slice of the oldest unfinished flush, and where it ended it what its connection is then owed; it does nothing where there is none
abbrev pub PurgeTo : RunState → Event → List Flushing → Type 0
PurgeTo w e [] = e.body ≡ Idle ∷ []
PurgeTo w e (flush ∷ flushes) = (note : Note) × GivesSlice e.conditions flush.number note × LeadsNotes w e.conditions note flush.connection e.body

-- the event is one of this step
abbrev pub HappensBy : RunState → Event → Step → Type 0
HappensBy w e (Opened c peer) = e.body ≡ opening c w.connection_count (w.connection c)
HappensBy w e (Piece c bytes) = PieceTo w e c bytes (w.connection c)
HappensBy w e (Gone c) = e.body ≡ going (w.connection c)
HappensBy w e (Direct target) = DirectTo w e target
HappensBy w e (Render pick) = RenderTo w e (picked_flight pick is_unrendered w.flights)
HappensBy w e (Deliver pick) = DeliverTo w e (picked_flight pick is_rendered w.flights)
HappensBy w e (Lose pick) = LoseTo w e (picked_flight pick is_any w.flights)
HappensBy w e Purge = PurgeTo w e w.flushes
HappensBy w e Restart = Restarts w e.conditions e.body

-- The event happens in this state: by its step; it says that memory ran out only where a note shows it; and no flush of the session has had
-- more slices that left it unfinished than the names that may stand in its way.
abbrev pub Happens : RunState → Event → Type 0
Happens w e = HappensBy w e e.step × ShowsIfOutOfMemory (state_before_notes w e e.step) e.conditions e.body × KeepsBound w.farm w.found (after_event w e).log

-- a run: each event happens in the state that those before it left
abbrev pub Run : RunState → List Event → Type 0
Run w [] = Unit {0}
Run w (e ∷ events) = Happens w e × Run (after_event w e) events

-- the state after events
abbrev pub state_after_events : RunState → List Event → RunState
state_after_events w [] = w
state_after_events w (e ∷ events) = state_after_events (after_event w e) events

-- ---- what a call of a front adds

-- What an event has to do with its disk, whose count of faults was this one and then that: the disk failed in it exactly where the count rose;
-- and unless the count is at its end, at most as many requests and flushes are spoilt as it rose by.
pub record HasCause (before after : ℕ) (w : RunState) (e : Event) : Type 0 where
  pub disk : IsDiskFailure before after e.conditions.disk_failed
  pub spoils : after < greatest_u64 → SpoilAtMost (after - before) (state_before_notes w e e.step) e.body

-- an event with this step and these notes, after which the front stands for what it left
pub record FurtherEvent (Stands : RunState → Type 0) (before after : ℕ) (w : RunState) (step : Step) (notes : List Note) : Type 0 where
  pub event : Event
  pub step_is : event.step ≡ step
  pub notes_are : notes_of event ≡ notes
  pub happens : Happens w event
  pub cause : HasCause before after w event
  pub stands : Stands (after_event w event)

-- Each run that the front stood for goes on with one event more.
pub record Extends (Before After : RunState → Type 0) (before after : ℕ) (step : Step) (notes : List Note) : Type 0 where
  pub extended : (w : RunState) → Before w → FurtherEvent After before after w step notes
