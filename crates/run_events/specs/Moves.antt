-- What each note does to the state of a run, and what a connection is given where it is owed something.
use Rattle.std.specs.Prelude.{◌≡◌, ◌+◌, ◌-◌, ◌==◌, ◌||◌, ◌++◌, ◌⊎◌, ℕ, Bool, false, not, nat_eq, if◌then◌else◌, List, [], ◌∷◌, Option, Some, None, IsTrue, map, filter, unwrap_or, option_and_then}
use Rattle.std.specs.List.{find}
use Rattle.std.specs.Option.{option_map}
use Rattle.std.specs.Map.{update}
use Rattle.sp_base.specs.declared.answer.Answer.{Answer}
use Rattle.sp_base.specs.Requests.{Request}
use Rattle.resource_tree.specs.Content.{Content}
use Rattle.cover_rules.specs.declared.page.PageKey.{PageKey}
use Rattle.cover_rules.specs.declared.invalidation.Invalidation.{Invalidation}
use Rattle.dispatch_rules.specs.Asking.{publisher_ask}
use Rattle.error_answers.specs.Errors.{error_answer}
use Rattle.http_front.specs.Answers.{fixed_507}
use Rattle.http_front.specs.Faults.{fault_status, insufficient_storage}
use Rattle.http_front.specs.declared.turn.Turn.{Turn}
use Rattle.http_front.specs.declared.turn.Turn.TheVariants.{Continue, Whole}
use Rattle.cache_log.specs.Entries.{LogEntry, Asked, Landed, Lost as lost_entry, Begun, Sliced as sliced_entry, Ended, Hit as hit_entry, Up as up_entry, Down as down_entry, Fate, Kept as kept_fate, Unkept as unkept_fate, Passed as passed_fate, FlushOutcome, Done as done_outcome, Failed as failed_outcome}
use Rattle.cache_ids.specs.Ids.{FlightId, FlushId}
use Rattle.connections.specs.declared.awaited.Awaited.TheVariants.{Flight as flight_awaited, Flush as flush_awaited}
use Rattle.connections.specs.Slots.{Slot, Response, Awaits, Cached, Says, IsWritten, local_response, request_slot, fault_slot, fixed_answer}
use Rattle.connections.specs.Connections.{Connection, Due, Send, Treat, Refuse, Close, Nothing, with_due_continue, is_crowded, with_slot, with_end, with_sent}
use Rattle.connections.specs.Connections as model
use Rattle.connections.specs.Ids.{ConnectionId}
use Rattle.run_events.specs.declared.conditions.Conditions.{Conditions}
use Rattle.run_events.specs.declared.flying.Flying.{Flying}
use Rattle.run_events.specs.declared.flying.Flushing.{Flushing}
use Rattle.run_events.specs.declared.note.Failure.{Failure}
use Rattle.run_events.specs.declared.note.Failure.TheVariants.{Disk, NoMemory, Restart as cut_off}
use Rattle.run_events.specs.declared.note.Note.{Note}
use Rattle.run_events.specs.declared.note.Note.TheVariants.{Ask as asked, Hit, Local, Flush, Sliced, Done, Failed, Rendered, Kept, Unkept, Passed, Lost, Sent, Shut, Up, Down}
use Rattle.run_events.specs.Publishers.{Publication}
use Rattle.run_events.specs.States.{RunState}
use Rattle.run_events.specs.Points.{IsFirstPoint, key_of, points}

-- ---- flights and flushes

-- the flight has this number
abbrev pub has_number : FlightId → Flying → Bool
has_number number flying = nat_eq flying.number number

-- the flight with this number
abbrev pub flying_at : FlightId → List Flying → Option Flying
flying_at number flights = find (has_number number) flights

-- the flights but for that one
abbrev pub air_without : FlightId → List Flying → List Flying
air_without number flights = filter (λ flying. not (has_number number flying)) flights

-- the flight is rendered
abbrev pub with_rendered : Answer → Flying → Flying
with_rendered answer flying = record flying { rendered = Some answer }

-- the flight is rendered if it has this number
abbrev pub with_rendered_at : FlightId → Answer → Flying → Flying
with_rendered_at number answer flying = if has_number number flying then with_rendered answer flying else flying

-- the flush has this number
abbrev pub is_flush : FlushId → Flushing → Bool
is_flush number flush = nat_eq flush.number number

-- the flush with this number
abbrev pub flush_at : FlushId → List Flushing → Option Flushing
flush_at number flushes = find (is_flush number) flushes

-- the flushes but for that one
abbrev pub without_flush : FlushId → List Flushing → List Flushing
without_flush number flushes = filter (λ flush. not (is_flush number flush)) flushes

-- ---- what is owed

-- what a connection is owed, nothing where it isn't there
abbrev pub due_if_open : Option Connection → Due
due_if_open None = Nothing
due_if_open (Some c) = model.due c

-- what a connection is owed next
abbrev pub due_of_connection : RunState → ConnectionId → Due
due_of_connection w c = due_if_open (w.connection c)

-- ---- what a note gives

-- the note treats the turn: by the first point that applies, or where memory ran out by the fixed 507
abbrev pub TreatedBy : Conditions → RunState → ConnectionId → Turn → Note → Type 0
TreatedBy m w c Continue note = ⊥
TreatedBy m w c (Whole request) note = IsFirstPoint m w c request note points ⊎ (IsTrue m.out_of_memory × (note ≡ Local c insufficient_storage))

-- these bytes may be sent for the slot: its own, or where memory ran out the fixed 507
abbrev pub MaySend : Conditions → Slot → List ℕ → Type 0
MaySend m slot bytes = IsWritten slot slot.response bytes ⊎ (IsTrue m.out_of_memory × (bytes ≡ fixed_507))

-- the note gives the connection what it is owed
abbrev pub GivesDue : Conditions → RunState → ConnectionId → Due → Note → Type 0
GivesDue m w c (Send slot) note = (bytes : List ℕ) × (note ≡ Sent c bytes) × MaySend m slot bytes
GivesDue m w c (Treat turn) note = TreatedBy m w c turn note
GivesDue m w c (Refuse fault) note = note ≡ Local c (fault_status fault)
GivesDue m w c Close note = note ≡ Shut c
GivesDue m w c Nothing note = ⊥

-- a slice of the flush ended it, or left more to do; it failed only where the disk did, or memory ran out
abbrev pub GivesSlice : Conditions → FlushId → Note → Type 0
GivesSlice m flush note = (note ≡ Done flush) ⊎ ((note ≡ Sliced flush) ⊎ (((note ≡ Failed flush Disk) × IsTrue m.disk_failed) ⊎ ((note ≡ Failed flush NoMemory) × IsTrue m.out_of_memory)))

-- the note gives what is due next: the first slice of a flush that just began, or what the connection is owed
abbrev pub GivesNext : Conditions → RunState → ConnectionId → Option FlushId → Note → Type 0
GivesNext m w c (Some flush) note = GivesSlice m flush note
GivesNext m w c None note = GivesDue m w c (due_of_connection w c) note

-- ---- what a note does

-- the request that is treated, if one is
abbrev pub treated_request : Due → Option Request
treated_request (Treat (Whole request)) = Some request
treated_request _ = None

-- the slot of a request, or without one that of a fault
abbrev pub slot_for : Option Request → Bool → Response → Slot
slot_for None closes response = fault_slot response
slot_for (Some request) closes response = request_slot request closes response

-- one connection changes, if it is open
abbrev pub on_connection : RunState → ConnectionId → (Connection → Connection) → RunState
on_connection w c change = record w { connection = update nat_eq w.connection c (option_map change (w.connection c)) }

-- the turn that is treated has its slot, and the sender that waits next has its 100 Continue
abbrev pub with_turn_slot : Slot → Connection → Connection
with_turn_slot slot c = with_due_continue (with_slot slot c)

-- the slot of what the front answers by itself; where the connection is crowded, or with 507, it closes
abbrev pub local_slot : Option Request → ℕ → Connection → Slot
local_slot request status c = slot_for request (is_crowded c || status == insufficient_storage) (local_response status)

-- a flight that was just asked
abbrev pub new_flight : FlightId → ConnectionId → Request → Flying
new_flight number c request = record { number = number; connection = c; request = request; rendered = None }

-- a flight is asked for the request that is treated: its connection has a slot that awaits it, and the log an entry
abbrev pub state_after_ask : RunState → FlightId → ConnectionId → Option PageKey → Option Request → RunState
state_after_ask w number c key None = w
state_after_ask w number c key (Some request) =
    record w {
      connection = update nat_eq w.connection c (option_map (with_turn_slot (request_slot request false (Awaits (flight_awaited number)))) (w.connection c));
      flights = w.flights ++ new_flight number c request ∷ [];
      log = Asked number key ∷ w.log;
    }

-- the cache answers the request that is treated, by one of the answers that its log permits now
abbrev pub state_after_hit : RunState → ConnectionId → PageKey → Option Request → RunState
state_after_hit w c key None = w
state_after_hit w c key (Some request) =
    record w {
      connection = update nat_eq w.connection c (option_map (with_turn_slot (request_slot request false (Cached w.farm w.log key))) (w.connection c));
      log = hit_entry key ∷ w.log;
    }

-- the flush whose first slice is due where this one begins: itself, where none is unfinished
abbrev pub first_sliced : List Flushing → FlushId → Option FlushId
first_sliced [] number = Some number
first_sliced (flush ∷ flushes) number = None

-- a flush begins for the request that is treated: its connection has a slot that awaits its end, and the log an entry
abbrev pub state_after_flush : RunState → FlushId → ConnectionId → Invalidation → Option Request → RunState
state_after_flush w number c inv None = w
state_after_flush w number c inv (Some request) =
    record w {
      connection = update nat_eq w.connection c (option_map (with_turn_slot (request_slot request false (Awaits (flush_awaited number)))) (w.connection c));
      flushes = w.flushes ++ record { number = number; connection = c } ∷ [];
      slicing = first_sliced w.flushes number;
      log = Begun number inv ∷ w.log;
    }

-- a flush has ended, and its connection has this response
abbrev pub state_after_ending : RunState → FlushId → FlushOutcome → Response → Option Flushing → RunState
state_after_ending w number outcome response None = w
state_after_ending w number outcome response (Some flush) =
    record w {
      connection = update nat_eq w.connection flush.connection (option_map (with_end (flush_awaited number) response) (w.connection flush.connection));
      flushes = without_flush number w.flushes;
      slicing = None;
      log = Ended number outcome ∷ w.log;
    }

-- the status by which a flush that failed is answered: Internal Server Error (RFC 9110, section 15.6.1), or Insufficient Storage (RFC 4918,
-- section 11.5) where memory ran out (a restart has shut the connection)
abbrev pub failure_status : Failure → ℕ
failure_status Disk = 500
failure_status NoMemory = insufficient_storage
failure_status cut_off = 500

-- a flight is out of the air, and its connection has this answer
abbrev pub over_with : RunState → FlightId → Answer → LogEntry → Option Flying → RunState
over_with w number answer entry None = w
over_with w number answer entry (Some flying) =
    record w {
      connection = update nat_eq w.connection flying.connection (option_map (with_end (flight_awaited number) (Says answer)) (w.connection flying.connection));
      flights = air_without number w.flights;
      log = entry ∷ w.log;
    }

-- the answer that a flight was rendered
abbrev pub answer_in : Option Flying → Answer
answer_in flying = unwrap_or (option_and_then (λ f. f.rendered) flying) fixed_answer

-- the page of the cache that a flight is for, if it is for one
abbrev pub key_in : RunState → Option Flying → Option PageKey
key_in w flying = option_and_then (λ (f : Flying). key_of w f.request) flying

-- a flight has landed with the answer that it was rendered
abbrev pub state_after_landing : RunState → FlightId → Fate → Option Flying → RunState
state_after_landing w number fate flying = over_with w number (answer_in flying) (Landed number (key_in w flying) (answer_in flying) fate) flying

-- what the publisher gives for a request of a client, asked by the farm, on the content of this moment
abbrev pub published_for : RunState → Request → Publication
published_for w request = w.publishing w.content (publisher_ask w.farm request)

-- The content after a flight is rendered: what the publisher leaves; but the fixed answer stands where it did nothing. Its status tells
-- it, since by its contract none of the publisher's own answers has that.
abbrev pub content_rendered : RunState → Answer → Option Flying → Content
content_rendered w answer None = w.content
content_rendered w answer (Some flying) = if answer.status == insufficient_storage then w.content else (published_for w flying.request).content

-- the state after a note
abbrev pub state_after_note : RunState → Note → RunState
state_after_note w (asked number c key) = state_after_ask w number c key (treated_request (due_of_connection w c))
state_after_note w (Hit c key) = state_after_hit w c key (treated_request (due_of_connection w c))
state_after_note w (Local c status) = on_connection w c (λ connection. with_turn_slot (local_slot (treated_request (due_of_connection w c)) status connection) connection)
state_after_note w (Flush number c inv) = state_after_flush w number c inv (treated_request (due_of_connection w c))
state_after_note w (Sliced number) = record w { slicing = None; log = sliced_entry number ∷ w.log }
state_after_note w (Done number) = state_after_ending w number done_outcome (Says (error_answer 200)) (flush_at number w.flushes)
state_after_note w (Failed number failure) = state_after_ending w number failed_outcome (Says (error_answer (failure_status failure))) (flush_at number w.flushes)
state_after_note w (Rendered number answer) = record w { content = content_rendered w answer (flying_at number w.flights); flights = map (with_rendered_at number answer) w.flights }
state_after_note w (Kept number key) = state_after_landing w number kept_fate (flying_at number w.flights)
state_after_note w (Unkept number) = state_after_landing w number unkept_fate (flying_at number w.flights)
state_after_note w (Passed number) = state_after_landing w number passed_fate (flying_at number w.flights)
state_after_note w (Lost number) = over_with w number (error_answer 502) (lost_entry number) (flying_at number w.flights)
state_after_note w (Sent c bytes) = on_connection w c (with_sent bytes)
state_after_note w (Shut c) = record w { connection = update nat_eq w.connection c None; connection_count = w.connection_count - 1 }
state_after_note w (Up epoch) = record w { log = up_entry epoch ∷ w.log }
state_after_note w Down = record w { log = down_entry ∷ w.log }
state_after_note w _ = w

-- the state after notes
abbrev pub state_after_notes : RunState → List Note → RunState
state_after_notes w [] = w
state_after_notes w (note ∷ notes) = state_after_notes (state_after_note w note) notes

-- each note gives what is due then
abbrev pub Serves : Conditions → RunState → ConnectionId → List Note → Type 0
Serves m w c [] = Unit {0}
Serves m w c (note ∷ notes) = GivesNext m w c w.slicing note × Serves m (state_after_note w note) c notes

-- the notes give a connection all that it is owed, and a flush that began its first slice if that is due, and no other
pub record Settles (m : Conditions) (w : RunState) (c : ConnectionId) (notes : List Note) : Type 0 where
  pub serves : Serves m w c notes
  pub idle : due_of_connection (state_after_notes w notes) c ≡ Nothing
  pub sliced : (state_after_notes w notes).slicing ≡ None
