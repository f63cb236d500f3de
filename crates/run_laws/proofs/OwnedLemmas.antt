-- Each slot of a connection has its own request's answer, whatever note comes.
use Rattle.std.proofs.Common.{◌≡◌, ℕ, ◌+◌, ◌≤◌, ◌++◌, ◌||◌, Bool, true, false, cond, List, [], ◌∷◌, Option, Some, None, length, refl, ap, sym, subst, ◌∙◌, arith, inl, inr, append-nil, length-append}
use Rattle.std.specs.Prelude.{if◌then◌else◌, nat_eq, slice_get}
use Rattle.std.specs.Option.{option_map}
use Rattle.std.specs.Map.{update}
use Rattle.std.proofs.lemmas.Map.{update_here}
use Rattle.std.proofs.lemmas.Option.{slice_get_within}
use Rattle.sp_base.specs.declared.answer.Answer.{Answer}
use Rattle.sp_base.specs.Requests.{Request}
use Rattle.cover_rules.specs.declared.page.PageKey.{PageKey}
use Rattle.cover_rules.specs.declared.invalidation.Invalidation.{Invalidation}
use Rattle.error_answers.specs.Errors.{error_answer}
use Rattle.http_front.specs.Faults.{fault_status}
use Rattle.http_front.specs.Turns.{Breaks, End, Waits}
use Rattle.http_front.specs.declared.fault.InFault.{InFault}
use Rattle.http_front.specs.declared.turn.Turn.{Turn}
use Rattle.http_front.specs.declared.turn.Turn.TheVariants.{Continue, Whole}
use Rattle.cache_log.specs.Entries.{FlushOutcome, flights_asked, flushes_begun}
use Rattle.connections.specs.declared.awaited.Awaited.TheVariants.{Flight as flight_awaited, Flush as flush_awaited}
use Rattle.connections.specs.Slots.{Awaits, Cached, Response, Says, Slot, interim_slot, is_answered, is_awaiting, local_response, request_slot}
use Rattle.connections.specs.Connections.{Close, Connection, Due, Nothing, Refuse, Send, Treat, with_due_continue, after_turn, due_at_slot, due_at_turn, due_without_sending, with_end, with_piece, next_turn, with_sent, with_slot}
use Rattle.connections.specs.Connections as model
use Rattle.connections.specs.Histories.{IsAtRest}
use Rattle.connections.specs.declared.sending.Sending.{Sending}
use Rattle.connections.proofs.PlaceLemmas.{length-filled}
use Rattle.connections.proofs.TurnLemmas.{local-waits}
use Rattle.run_events.specs.declared.conditions.Conditions.{Conditions}
use Rattle.run_events.specs.declared.flying.Flying.{Flying}
use Rattle.run_events.specs.declared.flying.Flushing.{Flushing}
use Rattle.run_events.specs.declared.note.Note.{Note}
use Rattle.run_events.specs.declared.note.Note.TheVariants.{Ask as asked, Hit, Local, Flush, Sent, Shut}
use Rattle.run_events.specs.Moves.{GivesDue, due_if_open, due_of_connection, local_slot, new_flight, state_after_ask, state_after_ending, state_after_flush, state_after_hit, state_after_note, treated_request, with_turn_slot}
use Rattle.run_events.specs.States.{RunState}
use Rattle.run_laws.specs.Histories.{sent_by}
use Rattle.run_laws.specs.Owned.{AreEach, ByFlight, ByFlush, ByHit, ByStatus, FlushEnding, HasFlushEnding, IsOfFlight, Outcomes, Treating, treated_by}
use Rattle.run_laws.proofs.AskLemmas.{Numbered, are-rising}
use Rattle.run_laws.proofs.EachLemmas.{each-fault, each-filled, each-interim, each-map, each-more, each-push}
use Rattle.run_laws.proofs.FormLemmas.{IsRequestNote, treated-form}
use Rattle.run_laws.proofs.HistoryLemmas.{Held, asked-changes, flush-changes, hit-changes}
use Rattle.run_laws.proofs.OutcomeLemmas.{Agrees, IsAskedFor, IsOfAir, IsOver, Moved, asked-new, flights-moved, moved-asked, moved-ended, moved-same, with_endings}
use Rattle.run_laws.proofs.PastLemmas.{Last, last-now, longer, past-as}

-- ---- what is due of the turns
abbrev IsOfStream : Due → Type 0
IsOfStream (Send slot) = ⊥
IsOfStream (Treat turn) = Unit {0}
IsOfStream (Refuse fault) = Unit {0}
IsOfStream Close = ⊥
IsOfStream Nothing = ⊥

unsent-of : (over closing : Bool) (t x : Due) → IsOfStream x → cond over Close (cond closing Nothing t) ≡ x → (t ≡ x) × (closing ≡ false)
unsent-of true closing t x of e = absurd (subst IsOfStream (sym e) of)
unsent-of false true t x of e = absurd (subst IsOfStream (sym e) of)
unsent-of false false t x of e = (e, refl)

slot-of : (o : Option Slot) (d : Connection) (x : Due) → IsOfStream x → due_at_slot o d ≡ x → due_without_sending d ≡ x
slot-of None d x of e = e
slot-of (Some slot) d x of e = by_test (is_answered slot.response) e
  where
    by_test : (b : Bool) → cond b (Send slot) (due_without_sending d) ≡ x → due_without_sending d ≡ x
    by_test true e = absurd (subst IsOfStream (sym e) of)
    by_test false e = e

due-of : (d : Connection) (x : Due) → IsOfStream x → model.due d ≡ x → (due_at_turn (next_turn d) d.ends ≡ x) × (d.closing ≡ false)
due-of d x of e = by_over d.over e
  where
    by_over : (over : Bool) → cond over Close (due_at_slot (slice_get d.slots d.sent) d) ≡ x → (due_at_turn (next_turn d) d.ends ≡ x) × (d.closing ≡ false)
    by_over true e = absurd (subst IsOfStream (sym e) of)
    by_over false e = unsent-of d.over d.closing (due_at_turn (next_turn d) d.ends) x of (slot-of (slice_get d.slots d.sent) d x of e)

turn-next : (o : Option Turn) (ends : End) (turn : Turn) → due_at_turn o ends ≡ Treat turn → o ≡ Some turn
turn-next None Waits turn e = absurd (let never : ⊥ = cc in never)
turn-next None (Breaks fault) turn e = absurd (let never : ⊥ = cc in never)
turn-next (Some t) ends turn e = let same : t ≡ turn = cc in ap Some same

fault-next : (o : Option Turn) (ends : End) (fault : InFault) → due_at_turn o ends ≡ Refuse fault → o ≡ None
fault-next None ends fault e = refl
fault-next (Some t) ends fault e = absurd (let never : ⊥ = cc in never)

-- ---- one connection
-- its slots have their own answers, and while it isn't closing each of them is a turn's
pub record Owns (w : RunState) (outcomes : Outcomes) (treatings : List Treating) (d : Connection) : Type 0 where
  pub each : AreEach (IsOfAir w.flights (flights_asked w.log) outcomes) treatings d.turns d.slots
  pub room : d.closing ≡ false → length d.slots ≤ length d.turns

-- the same of what it was at last
pub record LastOwns (flights : List Flying) (most : ℕ) (outcomes : Outcomes) (treatings : List Treating) (came : List ℕ) (sent : List Sending) : Type 0 where
  pub last : Last came sent
  pub each : AreEach (IsOfAir flights most outcomes) treatings last.last.turns last.last.slots

-- whether the connection is open or not any more
pub record Own (w : RunState) (c : ℕ) (outcomes : Outcomes) (treatings : List Treating) (came : List ℕ) (sent : List Sending) : Type 0 where
  pub here : (d : Connection) → w.connection c ≡ Some d → Owns w outcomes treatings d
  pub over : w.connection c ≡ None → LastOwns w.flights (flights_asked w.log) outcomes treatings came sent
  pub air_is : Agrees outcomes w.flights (flights_asked w.log)

-- what notes elsewhere do
abbrev pub Moves : RunState → Outcomes → RunState → Outcomes → Type 0
Moves w outcomes v all = Moved w.flights (flights_asked w.log) outcomes v.flights (flights_asked v.log) all

pub own-one : (v : RunState) (c : ℕ) (outcomes : Outcomes) (treatings : List Treating) (came : List ℕ) (sent : List Sending) (x : Connection) → v.connection c ≡ Some x → Owns v outcomes treatings x → Agrees outcomes v.flights (flights_asked v.log) → Own v c outcomes treatings came sent
own-one v c outcomes treatings came sent x is owns air_is = record {
  here = λ d some. let same : x ≡ d = cc in subst (Owns v outcomes treatings) same owns;
  over = λ none. absurd (let never : ⊥ = cc in never);
  air_is = air_is;
}

pub own-none : (v : RunState) (c : ℕ) (outcomes : Outcomes) (treatings : List Treating) (came : List ℕ) (sent : List Sending) → v.connection c ≡ None → LastOwns v.flights (flights_asked v.log) outcomes treatings came sent → Agrees outcomes v.flights (flights_asked v.log) → Own v c outcomes treatings came sent
own-none v c outcomes treatings came sent is last air_is = record { here = λ d some. absurd (let never : ⊥ = cc in never); over = λ none. last; air_is = air_is }

pub owns-moved : (w v : RunState) (outcomes all : Outcomes) (treatings : List Treating) (d : Connection) → Moves w outcomes v all → Owns w outcomes treatings d → Owns v all treatings d
owns-moved w v outcomes all treatings d moves owns = record {
  each = each-map (IsOfAir w.flights (flights_asked w.log) outcomes) (IsOfAir v.flights (flights_asked v.log) all) (flights-moved w.flights (flights_asked w.log) outcomes v.flights (flights_asked v.log) all moves) treatings d.turns d.slots owns.each;
  room = owns.room;
}

pub last-moved : (w v : RunState) (outcomes all : Outcomes) (treatings : List Treating) (came : List ℕ) (sent : List Sending) → Moves w outcomes v all → LastOwns w.flights (flights_asked w.log) outcomes treatings came sent
    → LastOwns v.flights (flights_asked v.log) all treatings came sent
last-moved w v outcomes all treatings came sent moves last = record {
  last = last.last;
  each = each-map (IsOfAir w.flights (flights_asked w.log) outcomes) (IsOfAir v.flights (flights_asked v.log) all) (flights-moved w.flights (flights_asked w.log) outcomes v.flights (flights_asked v.log) all moves) treatings last.last.last.turns last.last.last.slots last.each;
}

pub own-moved : (w v : RunState) (c : ℕ) (outcomes all : Outcomes) (treatings : List Treating) (came : List ℕ) (sent : List Sending) → v.connection c ≡ w.connection c → Moves w outcomes v all → Own w c outcomes treatings came sent → Own v c all treatings came sent
own-moved w v c outcomes all treatings came sent connection moves own = record {
  here = λ d some. owns-moved w v outcomes all treatings d moves (own.here d (sym connection ∙ some));
  over = λ none. last-moved w v outcomes all treatings came sent moves (own.over (sym connection ∙ none));
  air_is = moves.air_is;
}

-- ---- a turn or a fault gets its slot
or-true : (a : Bool) → (a || true) ≡ false → ⊥
or-true true e = let never : ⊥ = cc in never
or-true false e = let never : ⊥ = cc in never

owns-interim : (w : RunState) (outcomes : Outcomes) (treatings : List Treating) (d : Connection) → next_turn d ≡ Some Continue → Owns w outcomes treatings d → Owns w outcomes treatings (with_slot interim_slot d)
owns-interim w outcomes treatings d next owns = record {
  each = each-interim (IsOfAir w.flights (flights_asked w.log) outcomes) treatings d.turns d.slots owns.each next;
  room = λ stays. omega (arith, slice_get_within d.turns (length d.slots) Continue next, length-append d.slots (interim_slot ∷ []));
}

owns-turn : (w : RunState) (outcomes : Outcomes) (treatings : List Treating) (d : Connection) (o : Option Turn) → next_turn d ≡ o → Owns w outcomes treatings d → Owns w outcomes treatings (after_turn o d)
owns-turn w outcomes treatings d None next owns = owns
owns-turn w outcomes treatings d (Some Continue) next owns = owns-interim w outcomes treatings d next owns
owns-turn w outcomes treatings d (Some (Whole request)) next owns = owns

pub owns-advanced : (w : RunState) (outcomes : Outcomes) (treatings : List Treating) (d : Connection) → Owns w outcomes treatings d → Owns w outcomes treatings (with_due_continue d)
owns-advanced w outcomes treatings d owns = by_test d.closing
  where
    by_test : (b : Bool) → Owns w outcomes treatings (if b then d else after_turn (next_turn d) d)
    by_test true = owns
    by_test false = owns-turn w outcomes treatings d (next_turn d) refl owns

owns-request : (w : RunState) (outcomes : Outcomes) (treatings : List Treating) (d : Connection) (treating : Treating) (request : Request) (slot : Slot) → next_turn d ≡ Some (Whole request)
    → IsOfAir w.flights (flights_asked w.log) outcomes treating request slot.response → Owns w outcomes treatings d → Owns w outcomes (treatings ++ treating ∷ []) (with_turn_slot slot d)
owns-request w outcomes treatings d treating request slot next is owns = owns-advanced w outcomes (treatings ++ treating ∷ []) (with_slot slot d) (record {
  each = each-push (IsOfAir w.flights (flights_asked w.log) outcomes) treatings d.turns d.slots treating request slot owns.each next is;
  room = λ stays. omega (arith, slice_get_within d.turns (length d.slots) (Whole request) next, length-append d.slots (slot ∷ []));
})

owns-fault : (w : RunState) (outcomes : Outcomes) (treatings : List Treating) (d : Connection) (slot : Slot) (status : ℕ) → next_turn d ≡ None → d.closing ≡ false → slot.closes ≡ true → slot.response ≡ local_response status → Owns w outcomes treatings d
    → Owns w outcomes (treatings ++ ByStatus status ∷ []) (with_turn_slot slot d)
owns-fault w outcomes treatings d slot status next stays closes is owns = owns-advanced w outcomes (treatings ++ ByStatus status ∷ []) (with_slot slot d) (record {
  each = each-fault (IsOfAir w.flights (flights_asked w.log) outcomes) treatings d.turns d.slots slot status owns.each next (owns.room stays) is;
  room = λ open_. absurd (or-true d.closing (ap (λ b. d.closing || b) (sym closes) ∙ open_));
})

treated-here : (w : RunState) (treatings : List Treating) (c status : ℕ) → treatings ++ treated_by w c (Local c status) ≡ treatings ++ ByStatus status ∷ []
treated-here w treatings c status =
    let here : nat_eq c c ≡ true = grind arith in
    rw here refl

asked-here : (w : RunState) (treatings : List Treating) (c n : ℕ) (key : Option PageKey) → treatings ++ treated_by w c (asked n c key) ≡ treatings ++ ByFlight n ∷ []
asked-here w treatings c n key =
    let here : nat_eq c c ≡ true = grind arith in
    rw here refl

hit-here : (w : RunState) (treatings : List Treating) (c : ℕ) (key : PageKey) → treatings ++ treated_by w c (Hit c key) ≡ treatings ++ ByHit w.farm w.log key ∷ []
hit-here w treatings c key =
    let here : nat_eq c c ≡ true = grind arith in
    rw here refl

flush-here : (w : RunState) (treatings : List Treating) (c v : ℕ) (inv : Invalidation) → treatings ++ treated_by w c (Flush v c inv) ≡ treatings ++ ByFlush v ∷ []
flush-here w treatings c v inv =
    let here : nat_eq c c ≡ true = grind arith in
    rw here refl

-- what a connection was at last owns what it owned then
pub last-owns : (w : RunState) (outcomes : Outcomes) (treatings : List Treating) (came : List ℕ) (sent : List Sending) (d : Connection) (last : Last came sent) → last.last ≡ d → Owns w outcomes treatings d
    → LastOwns w.flights (flights_asked w.log) outcomes (treatings ++ []) came sent
last-owns w outcomes treatings came sent d last same owns = record { last = last; each = rw (append-nil treatings, same) owns.each }

-- ---- a note that is owed
-- the connection after the note, where the farm and the flights are those of before
local-owns : (w : RunState) (c : ℕ) (d : Connection) (outcomes : Outcomes) (treatings : List Treating) (came : List ℕ) (sent : List Sending) (request : Request) (status : ℕ) → w.connection c ≡ Some d → model.due d ≡ Treat (Whole request) → Own w c outcomes treatings came sent
    → Own (state_after_note w (Local c status)) c outcomes (treatings ++ treated_by w c (Local c status)) came (sent ++ [])
local-owns w c d outcomes treatings came sent request status is owed own =
    let next = due-of d (Treat (Whole request)) tt owed in
    let some : treated_request (due_of_connection w c) ≡ Some request = ap treated_request (ap due_if_open is ∙ owed) in
    let slot = local_slot (Some request) status d in
    let v = state_after_note w (Local c status) in
    let now : v.connection c ≡ Some (with_turn_slot slot d) = update_here w.connection c _ ∙ ap (option_map (λ connection. with_turn_slot (local_slot (treated_request (due_of_connection w c)) status connection) connection)) is ∙ ap (λ r. Some (with_turn_slot (local_slot r status d) d)) some in
    let before : Owns v outcomes treatings d = owns-moved w v outcomes outcomes treatings d (moved-same w.flights (flights_asked w.log) outcomes own.air_is) (own.here d is) in
    let owns : Owns v outcomes (treatings ++ ByStatus status ∷ []) (with_turn_slot slot d) = owns-request v outcomes treatings d (ByStatus status) request slot (turn-next (next_turn d) d.ends (Whole request) next.0) refl before in
    own-one v c outcomes _ came (sent ++ []) (with_turn_slot slot d) now (subst (λ fs. Owns v outcomes fs (with_turn_slot slot d)) (sym (treated-here w treatings c status)) owns) own.air_is

refused-owns : (w : RunState) (c : ℕ) (d : Connection) (outcomes : Outcomes) (treatings : List Treating) (came : List ℕ) (sent : List Sending) (fault : InFault) (status : ℕ) → w.connection c ≡ Some d → model.due d ≡ Refuse fault → Own w c outcomes treatings came sent
    → Own (state_after_note w (Local c status)) c outcomes (treatings ++ treated_by w c (Local c status)) came (sent ++ [])
refused-owns w c d outcomes treatings came sent fault status is owed own =
    let next = due-of d (Refuse fault) tt owed in
    let none : treated_request (due_of_connection w c) ≡ None = ap treated_request (ap due_if_open is ∙ owed) in
    let slot = local_slot None status d in
    let v = state_after_note w (Local c status) in
    let now : v.connection c ≡ Some (with_turn_slot slot d) = update_here w.connection c _ ∙ ap (option_map (λ connection. with_turn_slot (local_slot (treated_request (due_of_connection w c)) status connection) connection)) is ∙ ap (λ r. Some (with_turn_slot (local_slot r status d) d)) none in
    let before : Owns v outcomes treatings d = owns-moved w v outcomes outcomes treatings d (moved-same w.flights (flights_asked w.log) outcomes own.air_is) (own.here d is) in
    let owns : Owns v outcomes (treatings ++ ByStatus status ∷ []) (with_turn_slot slot d) = owns-fault v outcomes treatings d slot status (fault-next (next_turn d) d.ends fault next.0) next.1 refl refl before in
    own-one v c outcomes _ came (sent ++ []) (with_turn_slot slot d) now (subst (λ fs. Owns v outcomes fs (with_turn_slot slot d)) (sym (treated-here w treatings c status)) owns) own.air_is

-- a request has a slot with this response
pub request-owns : (w v : RunState) (c : ℕ) (d : Connection) (outcomes : Outcomes) (treatings : List Treating) (treating : Treating) (came : List ℕ) (sent : List Sending) (request : Request) (response : Response) → w.connection c ≡ Some d → model.due d ≡ Treat (Whole request) → Moves w outcomes v outcomes
    → IsOfAir v.flights (flights_asked v.log) outcomes treating request response → v.connection ≡ update nat_eq w.connection c (option_map (with_turn_slot (request_slot request false response)) (w.connection c)) → Own w c outcomes treatings came sent
    → Own v c outcomes (treatings ++ treating ∷ []) came (sent ++ [])
request-owns w v c d outcomes treatings treating came sent request response is owed moves of changed own =
    let next = due-of d (Treat (Whole request)) tt owed in
    let slot = request_slot request false response in
    let now : v.connection c ≡ Some (with_turn_slot slot d) = ap (λ f. f c) changed ∙ update_here w.connection c _ ∙ ap (option_map (with_turn_slot slot)) is in
    let before : Owns v outcomes treatings d = owns-moved w v outcomes outcomes treatings d moves (own.here d is) in
    let owns : Owns v outcomes (treatings ++ treating ∷ []) (with_turn_slot slot d) = owns-request v outcomes treatings d treating request slot (turn-next (next_turn d) d.ends (Whole request) next.0) of before in
    own-one v c outcomes (treatings ++ treating ∷ []) came (sent ++ []) (with_turn_slot slot d) now owns moves.air_is

-- ---- what a note does to the flights
pub asked-moves : (w : RunState) (n d : ℕ) (key : Option PageKey) (outcomes : Outcomes) (request : Option Request) → n ≡ flights_asked w.log + 1 → Numbered w → Agrees outcomes w.flights (flights_asked w.log) → Moves w outcomes (state_after_ask w n d key request) outcomes
asked-moves w n d key outcomes None next numbered air_is = moved-same w.flights (flights_asked w.log) outcomes air_is
asked-moves w n d key outcomes (Some request) next numbered air_is =
    subst (λ k. Moved w.flights (flights_asked w.log) outcomes (w.flights ++ new_flight k d request ∷ []) (flights_asked w.log + 1) outcomes) (sym next) (moved-asked w.flights (flights_asked w.log) d request outcomes (are-rising 0 w.flights (flights_asked w.log) numbered) air_is)

pub hit-moves : (w : RunState) (d : ℕ) (key : PageKey) (outcomes : Outcomes) (request : Option Request) → Agrees outcomes w.flights (flights_asked w.log) → Moves w outcomes (state_after_hit w d key request) outcomes
hit-moves w d key outcomes None air_is = moved-same w.flights (flights_asked w.log) outcomes air_is
hit-moves w d key outcomes (Some request) air_is = moved-same w.flights (flights_asked w.log) outcomes air_is

pub flush-moves : (w : RunState) (v d : ℕ) (inv : Invalidation) (outcomes : Outcomes) (request : Option Request) → Agrees outcomes w.flights (flights_asked w.log) → Moves w outcomes (state_after_flush w v d inv request) outcomes
flush-moves w v d inv outcomes None air_is = moved-same w.flights (flights_asked w.log) outcomes air_is
flush-moves w v d inv outcomes (Some request) air_is = moved-same w.flights (flights_asked w.log) outcomes air_is

pub ending-moves : (w : RunState) (v : ℕ) (outcome : FlushOutcome) (response : Response) (outcomes : Outcomes) (more : List FlushEnding) (at : Option Flushing) → Agrees outcomes w.flights (flights_asked w.log) → Moves w outcomes (state_after_ending w v outcome response at) (with_endings outcomes more)
ending-moves w v outcome response outcomes more None air_is = moved-ended w.flights (flights_asked w.log) outcomes more air_is
ending-moves w v outcome response outcomes more (Some f) air_is = moved-ended w.flights (flights_asked w.log) outcomes more air_is

-- the flight that was asked is for its request
asked-of : (w : RunState) (c : ℕ) (key : Option PageKey) (outcomes : Outcomes) (request : Request) (o : Option Request) → o ≡ Some request → Numbered w
    → IsOfAir (state_after_ask w (flights_asked w.log + 1) c key o).flights (flights_asked (state_after_ask w (flights_asked w.log + 1) c key o).log) outcomes (ByFlight (flights_asked w.log + 1)) request (Awaits (flight_awaited (flights_asked w.log + 1)))
asked-of w c key outcomes request None is numbered = absurd (cc is)
asked-of w c key outcomes request (Some other) is numbered =
    let same : other ≡ request = cc is in
    subst (λ (r : Request). (flights_asked w.log + 1 ≡ flights_asked w.log + 1) × IsAskedFor (w.flights ++ new_flight (flights_asked w.log + 1) c other ∷ []) (flights_asked w.log + 1) (flights_asked w.log + 1) r) same
    (refl, asked-new w.flights (flights_asked w.log) c other (are-rising 0 w.flights (flights_asked w.log) numbered))

-- ---- a note that is owed
form-owns : (m : Conditions) (w : RunState) (c : ℕ) (d : Connection) (outcomes : Outcomes) (treatings : List Treating) (came : List ℕ) (sent : List Sending) (request : Request) (note : Note) → w.connection c ≡ Some d → model.due d ≡ Treat (Whole request) → Numbered w
    → Own w c outcomes treatings came sent → IsRequestNote w c note → Own (state_after_note w note) c outcomes (treatings ++ treated_by w c note) came (sent ++ sent_by c m note)
form-owns m w c d outcomes treatings came sent request note is owed numbered own (inl local) = rw local.1 (local-owns w c d outcomes treatings came sent request local.0 is owed own)
form-owns m w c d outcomes treatings came sent request note is owed numbered own (inr (inl ask)) =
    let some : treated_request (due_of_connection w c) ≡ Some request = ap treated_request (ap due_if_open is ∙ owed) in
    let n = flights_asked w.log + 1 in
    let v = state_after_note w (asked n c ask.0) in
    rw ask.1 (subst (λ fs. Own v c outcomes fs came (sent ++ [])) (sym (asked-here w treatings c n ask.0))
    (request-owns w v c d outcomes treatings (ByFlight n) came sent request (Awaits (flight_awaited n)) is owed (asked-moves w n c ask.0 outcomes (treated_request (due_of_connection w c)) refl numbered own.air_is) (asked-of w c ask.0 outcomes request (treated_request (due_of_connection w c)) some numbered) (asked-changes w n c ask.0 request some) own))
form-owns m w c d outcomes treatings came sent request note is owed numbered own (inr (inr (inl hit))) =
    let some : treated_request (due_of_connection w c) ≡ Some request = ap treated_request (ap due_if_open is ∙ owed) in
    let v = state_after_note w (Hit c hit.0) in
    rw hit.1 (subst (λ fs. Own v c outcomes fs came (sent ++ [])) (sym (hit-here w treatings c hit.0))
    (request-owns w v c d outcomes treatings (ByHit w.farm w.log hit.0) came sent request (Cached w.farm w.log hit.0) is owed (hit-moves w c hit.0 outcomes (treated_request (due_of_connection w c)) own.air_is) refl (hit-changes w c hit.0 request some) own))
form-owns m w c d outcomes treatings came sent request note is owed numbered own (inr (inr (inr flush))) =
    let some : treated_request (due_of_connection w c) ≡ Some request = ap treated_request (ap due_if_open is ∙ owed) in
    let u = flushes_begun w.log + 1 in
    let v = state_after_note w (Flush u c flush.0) in
    rw flush.1 (subst (λ fs. Own v c outcomes fs came (sent ++ [])) (sym (flush-here w treatings c u flush.0))
    (request-owns w v c d outcomes treatings (ByFlush u) came sent request (Awaits (flush_awaited u)) is owed (flush-moves w u c flush.0 outcomes (treated_request (due_of_connection w c)) own.air_is) refl (flush-changes w u c flush.0 request some) own))

sent-owns : (w : RunState) (c : ℕ) (d : Connection) (outcomes : Outcomes) (treatings : List Treating) (came : List ℕ) (sent more : List Sending) (bytes : List ℕ) → w.connection c ≡ Some d → Own w c outcomes treatings came sent
    → Own (state_after_note w (Sent c bytes)) c outcomes (treatings ++ []) came (sent ++ more)
sent-owns w c d outcomes treatings came sent more bytes is own =
    let v = state_after_note w (Sent c bytes) in
    let now : v.connection c ≡ Some (with_sent bytes d) = update_here w.connection c _ ∙ ap (option_map (with_sent bytes)) is in
    let before : Owns w outcomes treatings d = own.here d is in
    let owns : Owns v outcomes treatings (with_sent bytes d) = record { each = before.each; room = before.room } in
    own-one v c outcomes (treatings ++ []) came (sent ++ more) (with_sent bytes d) now (subst (λ fs. Owns v outcomes fs (with_sent bytes d)) (sym (append-nil treatings)) owns) own.air_is

pub shut-owns : (w : RunState) (c : ℕ) (d : Connection) (outcomes : Outcomes) (treatings : List Treating) (came : List ℕ) (sent : List Sending) → w.connection c ≡ Some d → model.due d ≡ Close → Held w c came sent → Own w c outcomes treatings came sent
    → Own (state_after_note w (Shut c)) c outcomes (treatings ++ []) came (sent ++ [])
shut-owns w c d outcomes treatings came sent is owed held own =
    let past = past-as d came sent (sent ++ []) (sym (append-nil sent)) (held.here d is) in
    let last : Last came (sent ++ []) = last-now d came (sent ++ []) past (subst IsAtRest (sym owed) tt) in
    own-none (state_after_note w (Shut c)) c outcomes (treatings ++ []) came (sent ++ []) (update_here w.connection c None) (last-owns w outcomes treatings came (sent ++ []) d last refl (own.here d is)) own.air_is

gives-owns : (m : Conditions) (w : RunState) (c : ℕ) (d : Connection) (outcomes : Outcomes) (treatings : List Treating) (came : List ℕ) (sent : List Sending) (owed : Due) (note : Note) → w.connection c ≡ Some d → model.due d ≡ owed → Held w c came sent → Numbered w
    → Own w c outcomes treatings came sent → GivesDue m w c owed note → Own (state_after_note w note) c outcomes (treatings ++ treated_by w c note) came (sent ++ sent_by c m note)
gives-owns m w c d outcomes treatings came sent (Send slot) note is owed held numbered own gives = rw gives.1 (sent-owns w c d outcomes treatings came sent (sent_by c m (Sent c gives.0)) gives.0 is own)
gives-owns m w c d outcomes treatings came sent (Treat Continue) note is owed held numbered own gives = absurd gives
gives-owns m w c d outcomes treatings came sent (Treat (Whole request)) note is owed held numbered own gives = form-owns m w c d outcomes treatings came sent request note is owed numbered own (treated-form m w c request note gives)
gives-owns m w c d outcomes treatings came sent (Refuse fault) note is owed held numbered own gives = rw gives (refused-owns w c d outcomes treatings came sent fault (fault_status fault) is owed own)
gives-owns m w c d outcomes treatings came sent Close note is owed held numbered own gives = rw gives (shut-owns w c d outcomes treatings came sent is owed held own)
gives-owns m w c d outcomes treatings came sent Nothing note is owed held numbered own gives = absurd gives

pub connection-owns : (m : Conditions) (w : RunState) (c : ℕ) (outcomes : Outcomes) (treatings : List Treating) (came : List ℕ) (sent : List Sending) (note : Note) (connection : Option Connection) → w.connection c ≡ connection → Held w c came sent → Numbered w → Own w c outcomes treatings came sent
    → GivesDue m w c (due_if_open connection) note → Own (state_after_note w note) c outcomes (treatings ++ treated_by w c note) came (sent ++ sent_by c m note)
connection-owns m w c outcomes treatings came sent note None is held numbered own gives = absurd gives
connection-owns m w c outcomes treatings came sent note (Some d) is held numbered own gives = gives-owns m w c d outcomes treatings came sent (model.due d) note is refl held numbered own gives

-- ---- a flight has landed
pub owns-landed : (w v : RunState) (outcomes all : Outcomes) (treatings : List Treating) (n : ℕ) (answer : Answer) (d : Connection) → Moves w outcomes v all
    → ((k : ℕ) (request : Request) → n ≡ k → IsAskedFor w.flights (flights_asked w.log) k request → IsOfFlight all k request (Says answer) × IsOver v.flights (flights_asked v.log) k) → Owns w outcomes treatings d → Owns v all treatings (with_end (flight_awaited n) (Says answer) d)
owns-landed w v outcomes all treatings n answer d moves good owns = record {
  each = each-filled (IsOfAir w.flights (flights_asked w.log) outcomes) (IsOfAir v.flights (flights_asked v.log) all) (flight_awaited n) (Says answer)
      (flights-moved w.flights (flights_asked w.log) outcomes v.flights (flights_asked v.log) all moves) lands treatings d.turns d.slots owns.each;
  room = λ stays. omega (arith, owns.room stays, length-filled (flight_awaited n) (Says answer) d.slots);
}
  where
    self : is_awaiting (flight_awaited n) (Awaits (flight_awaited n)) ≡ true
    self = grind arith

    lands : (treating : Treating) (request : Request) → IsOfAir w.flights (flights_asked w.log) outcomes treating request (Awaits (flight_awaited n)) → IsOfAir v.flights (flights_asked v.log) all treating request (Says answer)
    lands (ByStatus status) request is = absurd (let waits : true ≡ false = sym self ∙ ap (is_awaiting (flight_awaited n)) is ∙ local-waits (flight_awaited n) status in let never : ⊥ = cc in never)
    lands (ByHit farm log key) request is = absurd (cc is)
    lands (ByFlush u) request is = absurd is
    lands (ByFlight k) request is = good k request is.0 is.1

-- ---- a flush has ended
pub owns-flushed : (w v : RunState) (outcomes all : Outcomes) (treatings : List Treating) (u status : ℕ) (d : Connection) → Moves w outcomes v all → HasFlushEnding all.endings u status → Owns w outcomes treatings d → Owns v all treatings (with_end (flush_awaited u) (Says (error_answer status)) d)
owns-flushed w v outcomes all treatings u status d moves ended owns = record {
  each = each-filled (IsOfAir w.flights (flights_asked w.log) outcomes) (IsOfAir v.flights (flights_asked v.log) all) (flush_awaited u) (Says (error_answer status))
      (flights-moved w.flights (flights_asked w.log) outcomes v.flights (flights_asked v.log) all moves) ends treatings d.turns d.slots owns.each;
  room = λ stays. omega (arith, owns.room stays, length-filled (flush_awaited u) (Says (error_answer status)) d.slots);
}
  where
    self : is_awaiting (flush_awaited u) (Awaits (flush_awaited u)) ≡ true
    self = grind arith

    ends : (treating : Treating) (request : Request) → IsOfAir w.flights (flights_asked w.log) outcomes treating request (Awaits (flush_awaited u)) → IsOfAir v.flights (flights_asked v.log) all treating request (Says (error_answer status))
    ends (ByStatus other) request is = absurd (let waits : true ≡ false = sym self ∙ ap (is_awaiting (flush_awaited u)) is ∙ local-waits (flush_awaited u) other in let never : ⊥ = cc in never)
    ends (ByHit farm log key) request is = absurd (cc is)
    ends (ByFlush k) request is = (status, subst (λ x. HasFlushEnding all.endings x status) is ended, refl)
    ends (ByFlight k) request is = absurd is

-- ---- more bytes
pub owns-fed : (w : RunState) (outcomes : Outcomes) (treatings : List Treating) (bytes : List ℕ) (turns : List Turn) (ends : End) (d : Connection) → Owns w outcomes treatings d → Owns w outcomes treatings (with_piece bytes turns ends d)
owns-fed w outcomes treatings bytes turns ends d owns = by_test d.closing refl
  where
    by_test : (b : Bool) → d.closing ≡ b → Owns w outcomes treatings (if b then d else with_due_continue (longer bytes turns ends d))
    by_test true e = owns
    by_test false e =
        let room = owns.room e in
        owns-advanced w outcomes treatings (longer bytes turns ends d) (record {
          each = each-more (IsOfAir w.flights (flights_asked w.log) outcomes) treatings d.turns turns d.slots room owns.each;
          room = λ stays. omega (arith, room, length-append d.turns turns);
        })
