-- What came on a connection since it was opened, and what was sent on it.
use Rattle.std.specs.Prelude.{◌≡◌, ◌++◌, ℕ, Bool, true, false, nat_eq, if◌then◌else◌, List, [], ◌∷◌, None, flat_map, Some}
use Rattle.std.specs.List.{list_any}
use Rattle.http_front.specs.Turns.{End, SpellsTurns, Waits}
use Rattle.http_front.specs.declared.turn.Turn.{Turn}
use Rattle.connections.specs.Connections.{Connection, next_turn}
use Rattle.connections.specs.Histories.{AnswersRun, AreAllTreated, AreOfTurns, HaveNoSendingOutOfMemory, some_closes}
use Rattle.connections.specs.Ids.{ConnectionId}
use Rattle.connections.specs.Slots.{Slot}
use Rattle.connections.specs.declared.sending.Sending.{Sending}
use Rattle.run_events.specs.declared.note.Note.{Note}
use Rattle.run_events.specs.declared.note.Note.TheVariants.{Sent, Idle}
use Rattle.run_events.specs.declared.step.Step.{Step}
use Rattle.run_events.specs.declared.step.Step.TheVariants.{Opened, Piece}
use Rattle.run_events.specs.Events.{Event, Run, state_after_events}
use Rattle.run_events.specs.declared.conditions.Conditions.{Conditions}
use Rattle.run_events.specs.States.{Start, start_of}

-- what a note sends on the connection
abbrev pub sent_by : ConnectionId → Conditions → Note → List Sending
sent_by c m (Sent d bytes) = if nat_eq d c then record { bytes = bytes; out_of_memory = m.out_of_memory } ∷ [] else []
sent_by c m _ = []

-- the same of notes, one after another
abbrev pub sent_in : ConnectionId → Conditions → List Note → List Sending
sent_in c m notes = flat_map (sent_by c m) notes

-- the event opens the connection: it was not there, and there was room
abbrev pub opens_connection : ConnectionId → Step → List Note → Bool
opens_connection c (Opened d peer) [] = nat_eq d c
opens_connection c _ notes = false

-- what was sent once further events have happened: where one opens the connection, it begins anew
abbrev pub sent_after : ConnectionId → List Sending → List Event → List Sending
sent_after c sent [] = sent
sent_after c sent (e ∷ events) = sent_after c (if opens_connection c e.step e.body then [] else sent ++ sent_in c e.conditions e.body) events

-- what was sent on the connection since it was opened last
abbrev pub sent_since_opened : ConnectionId → List Event → List Sending
sent_since_opened c events = sent_after c [] events

-- the note tells that the step does nothing
abbrev pub is_idle : Note → Bool
is_idle Idle = true
is_idle _ = false

-- the bytes that a step brings on the connection: none where it does nothing, since the connection isn't there
abbrev pub brought_by : ConnectionId → Step → List Note → List ℕ
brought_by c (Piece d bytes) notes = if list_any is_idle notes then [] else (if nat_eq d c then bytes else [])
brought_by c _ notes = []

-- what came once further events have happened: where one opens the connection, it begins anew
abbrev pub came_after : ConnectionId → List ℕ → List Event → List ℕ
came_after c came [] = came
came_after c came (e ∷ events) = came_after c (if opens_connection c e.step e.body then [] else came ++ brought_by c e.step e.body) events

-- what came on the connection since it was opened last, while it was there
abbrev pub came_since_opened : ConnectionId → List Event → List ℕ
came_since_opened c events = came_after c [] events

-- What was sent answers the stream: the stream spells turns, which have slots in their order, and what was sent answers these in their
-- order (RFC 9112, section 9.3.2).
pub record AnswersStream (stream : List ℕ) (sent : List Sending) : Type 0 where
  pub turns : List Turn
  pub ends : End
  pub slots : List Slot
  pub spells : SpellsTurns stream turns ends
  pub of_turns : AreOfTurns turns ends slots
  pub answers : AnswersRun slots sent

-- What was sent answers what came, or, where a slot closes the connection, a prefix of it. Each turn has its slot, and so has the fault
-- that ends them, unless a slot closes the connection or memory ran out as something was sent.
pub record AnswersWhatCame (came : List ℕ) (sent : List Sending) : Type 0 where
  pub stream : List ℕ
  pub rest : List ℕ
  pub came_is : came ≡ stream ++ rest
  pub answers : AnswersStream stream sent
  pub all_read : some_closes answers.slots ≡ false → rest ≡ []
  pub all_treated : some_closes answers.slots ≡ false → HaveNoSendingOutOfMemory sent → AreAllTreated answers.turns answers.ends answers.slots

-- each turn of what came has its slot, and further turns are awaited
pub record HasReadAll (came : List ℕ) (connection : Connection) : Type 0 where
  pub spells : SpellsTurns came connection.turns Waits
  pub treated : next_turn connection ≡ None

-- this is so of each open connection after each run of events
abbrev pub OfOpenConnections : (List Event → ConnectionId → Connection → Type 0) → Type 0
OfOpenConnections IsSo = (s : Start) (events : List Event) (c : ConnectionId) (connection : Connection) → Run (start_of s) events
    → (state_after_events (start_of s) events).connection c ≡ Some connection → IsSo events c connection

-- what was sent on a connection since it was opened answers what came on it since
abbrev pub AnswersItsStream : ConnectionId → List Event → Type 0
AnswersItsStream c events = AnswersWhatCame (came_since_opened c events) (sent_since_opened c events)
