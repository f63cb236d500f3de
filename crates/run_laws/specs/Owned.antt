-- Whose answer each slot of a connection has: that of its own request's flight, or the front's own.
use Rattle.std.specs.Prelude.{◌≡◌, ◌++◌, ◌⊎◌, ℕ, Bool, nat_eq, if◌then◌else◌, List, [], ◌∷◌, flat_map, Contains}
use Rattle.sp_base.specs.declared.answer.Answer.{Answer}
use Rattle.sp_base.specs.Requests.{Request}
use Rattle.error_answers.specs.Errors.{error_answer}
use Rattle.http_front.specs.declared.turn.Turn.{Turn}
use Rattle.http_front.specs.declared.turn.Turn.TheVariants.{Continue, Whole}
use Rattle.any_config.specs.declared.farm.Farm.{Farm}
use Rattle.cover_rules.specs.declared.page.PageKey.{PageKey}
use Rattle.cache_log.specs.Entries.{LogEntry, Hit as hit_entry}
use Rattle.connections.specs.declared.awaited.Awaited.TheVariants.{Flight as flight_awaited, Flush as flush_awaited}
use Rattle.connections.specs.Slots.{Awaits, Cached, Interim, Response, Says, Slot, local_response}
use Rattle.connections.specs.Ids.{ConnectionId, FlightId, FlushId}
use Rattle.connections.specs.declared.sending.Sending.{Sending}
use Rattle.run_events.specs.declared.note.Note.{Note}
use Rattle.run_events.specs.declared.note.Note.TheVariants.{Ask as asked, Hit, Local, Flush, Done, Failed, Lost}
use Rattle.run_events.specs.Moves.{failure_status, state_after_note}
use Rattle.run_events.specs.Events.{Event, Run, after_event, state_before_notes}
use Rattle.run_laws.specs.Histories.{AnswersWhatCame, came_since_opened, opens_connection, sent_since_opened}
use Rattle.run_laws.specs.Logs.{IsBeginning, log_after}
use Rattle.run_laws.specs.Renders.{Rendering, renders_of}
use Rattle.run_events.specs.States.{RunState, Start, start_of}

-- how a request is treated, or the fault of a stream: by the flight with this number; by a hit on the page, before this farm with this log of
-- the cache; by the flush with this number; or by the front itself with this status
pub data Treating : Type 0 where
  ByFlight : (number : FlightId) → Treating
  ByHit : (farm : Farm) (log : List LogEntry) (key : PageKey) → Treating
  ByFlush : (number : FlushId) → Treating
  ByStatus : (status : ℕ) → Treating

-- how the note treats a request of the connection, or the fault of its stream
abbrev pub treated_by : RunState → ConnectionId → Note → List Treating
treated_by w c (asked number d key) = if nat_eq d c then ByFlight number ∷ [] else []
treated_by w c (Hit d key) = if nat_eq d c then ByHit w.farm w.log key ∷ [] else []
treated_by w c (Flush number d inv) = if nat_eq d c then ByFlush number ∷ [] else []
treated_by w c (Local d status) = if nat_eq d c then ByStatus status ∷ [] else []
treated_by w c _ = []

-- the same of notes, one after another, each in the state in which it comes
abbrev pub treated_in : RunState → ConnectionId → List Note → List Treating
treated_in w c [] = []
treated_in w c (note ∷ notes) = treated_by w c note ++ treated_in (state_after_note w note) c notes

-- the same once further events have happened: where one opens the connection, it begins anew
abbrev pub treated_after : RunState → ConnectionId → List Treating → List Event → List Treating
treated_after w c treatings [] = treatings
treated_after w c treatings (e ∷ events) = treated_after (after_event w e) c (if opens_connection c e.step e.body then [] else treatings ++ treated_in (state_before_notes w e e.step) c e.body) events

-- how each request of the connection was treated since it was opened last, in order, and after them the fault of its stream: by the flight
-- that was asked for that very request, by a hit, by the flush that it asked for, or by the front itself
abbrev pub treated_since_opened : Start → ConnectionId → List Event → List Treating
treated_since_opened s c events = treated_after (start_of s) c [] events

-- the flight with this number was for this request, and was rendered with this answer
pub record WasRendered (renders : List Rendering) (number : FlightId) (request : Request) (answer : Answer) : Type 0 where
  pub before : List Rendering
  pub later : List Rendering
  pub out_of_memory : Bool
  pub is : renders ≡ before ++ record { number = number; request = request; answer = answer; out_of_memory = out_of_memory } ∷ later

-- the flights that notes lose
abbrev pub lost_by : Note → List FlightId
lost_by (Lost number) = number ∷ []
lost_by _ = []

-- the same of notes, one after another
abbrev pub lost_in : List Note → List FlightId
lost_in notes = flat_map lost_by notes

-- the flights that are lost in a run, one after another
abbrev pub losses_of : List Event → List FlightId
losses_of events = flat_map (λ (e : Event). lost_in e.body) events

-- the flight with this number was lost
pub record WasLost (losses : List FlightId) (number : FlightId) : Type 0 where
  pub before : List FlightId
  pub later : List FlightId
  pub is : losses ≡ before ++ number ∷ later

-- A flush ended: its number, and the status by which that is answered.
pub record FlushEnding : Type 0 where
  pub number : FlushId
  pub status : ℕ

-- the flushes that notes end: those that are done are answered by OK (RFC 9110, section 15.3.1)
abbrev pub ended_by : Note → List FlushEnding
ended_by (Done number) = record { number = number; status = 200 } ∷ []
ended_by (Failed number failure) = record { number = number; status = failure_status failure } ∷ []
ended_by _ = []

-- the same of notes, one after another
abbrev pub ended_in : List Note → List FlushEnding
ended_in notes = flat_map ended_by notes

-- the flushes that end in a run, one after another
abbrev pub endings_of : List Event → List FlushEnding
endings_of events = flat_map (λ (e : Event). ended_in e.body) events

-- the flush with this number ended so
pub record HasFlushEnding (endings : List FlushEnding) (number : FlushId) (status : ℕ) : Type 0 where
  pub before : List FlushEnding
  pub later : List FlushEnding
  pub is : endings ≡ before ++ record { number = number; status = status } ∷ later

-- what became of the flights and the flushes of a run: what was rendered for flights, which of them were lost, and how flushes ended
pub record Outcomes : Type 0 where
  pub renders : List Rendering
  pub losses : List FlightId
  pub endings : List FlushEnding

-- what answers a request for which this flight was asked: the flight is awaited; or what was rendered for it, where it wasn't lost; or
-- Bad Gateway, where it was (RFC 9110, section 15.6.3)
abbrev pub IsOfFlight : Outcomes → FlightId → Request → Response → Type 0
IsOfFlight outcomes number request (Awaits (flight_awaited flight)) = flight ≡ number
IsOfFlight outcomes number request (Says answer) = (WasRendered outcomes.renders number request answer × (WasLost outcomes.losses number → ⊥)) ⊎ (WasLost outcomes.losses number × (answer ≡ error_answer 502))
IsOfFlight outcomes number request _ = ⊥

-- what answers a request for a flush: its end is awaited; or it has ended, and is answered by its status
abbrev pub IsOfFlush : Outcomes → FlushId → Response → Type 0
IsOfFlush outcomes number (Awaits (flush_awaited flush)) = flush ≡ number
IsOfFlush outcomes number (Says answer) = (status : ℕ) × HasFlushEnding outcomes.endings number status × (answer ≡ error_answer status)
IsOfFlush outcomes number _ = ⊥

-- what answers a request: its flight, one of the answers that the cache may give by its log as it was, its flush, or the front itself with the
-- status that was noted
abbrev pub IsOfRequest : Outcomes → Treating → Request → Response → Type 0
IsOfRequest outcomes (ByStatus status) request response = response ≡ local_response status
IsOfRequest outcomes (ByHit farm log key) request response = response ≡ Cached farm log key
IsOfRequest outcomes (ByFlush number) request response = IsOfFlush outcomes number response
IsOfRequest outcomes (ByFlight number) request response = IsOfFlight outcomes number request response

-- the last slot is that of a fault, which the front answers itself, with the status that was noted
pub record IsNotedFault (treatings : List Treating) (slot : Slot) (slots : List Slot) : Type 0 where
  pub status : ℕ
  pub noted : treatings ≡ ByStatus status ∷ []
  pub last : slots ≡ []
  pub response_is : slot.response ≡ local_response status

-- The slots are those of the turns: a Continue's, a request's that is answered so, and after all turns that of a fault.
abbrev pub AreEach : (Treating → Request → Response → Type 0) → List Treating → List Turn → List Slot → Type 0
AreEach Is treatings turns [] = treatings ≡ []
AreEach Is treatings [] (slot ∷ slots) = IsNotedFault treatings slot slots
AreEach Is treatings (Continue ∷ turns) (slot ∷ slots) = (slot.response ≡ Interim) × AreEach Is treatings turns slots
AreEach Is [] (Whole request ∷ turns) (slot ∷ slots) = ⊥
AreEach Is (treating ∷ treatings) (Whole request ∷ turns) (slot ∷ slots) = Is treating request slot.response × AreEach Is treatings turns slots

-- what was sent answers what came, each request by its own flight's answer or by the status that was noted for it
pub record AreOwnAnswers (outcomes : Outcomes) (treatings : List Treating) (came : List ℕ) (sent : List Sending) : Type 0 where
  pub what : AnswersWhatCame came sent
  pub own : AreEach (IsOfRequest outcomes) treatings what.answers.turns what.answers.slots

-- In every run each answer that is sent is its own request's, whether the connection is open, shut or gone.
abbrev pub AnswersAreOwn : Type 0
AnswersAreOwn = (s : Start) (events : List Event) (c : ConnectionId) → Run (start_of s) events
    → AreOwnAnswers (record { renders = renders_of (start_of s) events; losses = losses_of events; endings = endings_of events }) (treated_since_opened s c events) (came_since_opened c events) (sent_since_opened c events)

-- A hit by which a request was treated is an entry of the log, and what it may give is by the log before that entry, before the run's farm.
abbrev pub HitsAreEntries : Type 0
HitsAreEntries = (s : Start) (events : List Event) (c : ConnectionId) → IsBeginning s → Run (start_of s) events
    → (farm : Farm) (log : List LogEntry) (key : PageKey) → Contains (treated_since_opened s c events) (ByHit farm log key) → (farm ≡ s.farm) × ((later : List LogEntry) × (log_after s events ≡ later ++ hit_entry key ∷ log))
