-- What happens to one connection in a run, as moves of it; what came on it, and what was sent.
use Rattle.std.proofs.Common.{◌≡◌, ◌≢◌, ℕ, ◌+◌, ◌++◌, ◌||◌, Bool, true, false, List, [], ◌∷◌, Option, Some, None, refl, ap, sym, subst, ◌∙◌, arith, inl, inr, ⊎_elim, append-nil, append_assoc}
use Rattle.std.specs.Prelude.{◌==◌, nat_eq, if◌then◌else◌}
use Rattle.std.specs.Map.{update}
use Rattle.std.specs.Option.{option_map}
use Rattle.std.proofs.lemmas.Map.{update_apart, update_here}
use Rattle.std.proofs.lemmas.Bool.{cases_eq}
use Rattle.sp_base.specs.declared.answer.Answer.{Answer}
use Rattle.sp_base.specs.Requests.{Request}
use Rattle.cover_rules.specs.declared.page.PageKey.{PageKey}
use Rattle.cover_rules.specs.declared.invalidation.Invalidation.{Invalidation}
use Rattle.error_answers.specs.Errors.{error_answer}
use Rattle.http_front.specs.Faults.{fault_status}
use Rattle.http_front.specs.declared.fault.InFault.{InFault}
use Rattle.http_front.specs.declared.turn.Turn.TheVariants.{Continue, Whole}
use Rattle.cache_log.specs.Entries.{LogEntry, FlushOutcome, Done as done_outcome, Failed as failed_outcome, flights_asked, flushes_begun}
use Rattle.connections.specs.declared.awaited.Awaited.{Awaited}
use Rattle.connections.specs.declared.awaited.Awaited.TheVariants.{Flight as flight_awaited, Flush as flush_awaited}
use Rattle.connections.specs.Slots.{Slot, Awaits, Cached, Fixed, Response, Says, local_response, request_slot}
use Rattle.connections.specs.Connections.{Connection, Due, Send, Treat, Refuse, Close, Nothing, is_crowded, with_end, with_sent}
use Rattle.connections.specs.Connections as model
use Rattle.connections.specs.Histories.{Ending, IsAtRest, IsMove, Sent as SentMove, Treatment}
use Rattle.connections.specs.Histories as history
use Rattle.connections.specs.declared.sending.Sending.{Sending}
use Rattle.run_events.specs.declared.conditions.Conditions.{Conditions}
use Rattle.run_events.specs.declared.flying.Flying.{Flying}
use Rattle.run_events.specs.declared.flying.Flushing.{Flushing}
use Rattle.run_events.specs.declared.note.Note.{Note}
use Rattle.run_events.specs.declared.note.Note.TheVariants.{Ask as asked, Hit, Local, Flush, Sliced, Sent, Shut}
use Rattle.run_events.specs.States.{RunState}
use Rattle.run_events.specs.Moves.{GivesDue, GivesNext, Serves, due_if_open, due_of_connection, failure_status, flush_at, local_slot, over_with, state_after_ask, state_after_ending, state_after_flush, state_after_hit, state_after_note, state_after_notes, treated_request, with_turn_slot}
use Rattle.run_laws.specs.Histories.{sent_by, sent_in}
use Rattle.run_laws.proofs.FormLemmas.{IsRequestNote, IsSliceNote, slice-form, treated-form}
use Rattle.run_laws.proofs.PastLemmas.{Last, Past, last-now, past-as, past-move, same-end, same-sent, same-treated}

-- ---- the past of one connection
-- the connection has such a past, whether it is open or not any more
pub record Held (w : RunState) (c : ℕ) (came : List ℕ) (sent : List Sending) : Type 0 where
  pub here : (d : Connection) → w.connection c ≡ Some d → Past d came sent
  pub over : w.connection c ≡ None → Last came sent

pub held-none : (w : RunState) (c : ℕ) (came : List ℕ) (sent : List Sending) → w.connection c ≡ None → Last came sent → Held w c came sent
held-none w c came sent none last = record { here = λ d some. absurd (let never : ⊥ = cc in never); over = λ e. last }

pub held-one : (w : RunState) (c : ℕ) (d : Connection) (came : List ℕ) (sent : List Sending) → w.connection c ≡ Some d → Past d came sent → Held w c came sent
held-one w c d came sent is past = record {
  here = λ x some. let same : d ≡ x = cc in subst (λ y. Past y came sent) same past;
  over = λ none. absurd (let never : ⊥ = cc in never);
}

pub held-same : (w v : RunState) (c : ℕ) (came : List ℕ) (a b : List Sending) → v.connection c ≡ w.connection c → a ≡ b → Held w c came a → Held v c came b
held-same w v c came a b connection same held = subst (λ xs. Held v c came xs) same (record {
  here = λ d some. held.here d (sym connection ∙ some);
  over = λ none. held.over (sym connection ∙ none);
})

-- nothing was sent
pub held-silent : (w v : RunState) (c : ℕ) (came : List ℕ) (sent : List Sending) → v.connection c ≡ w.connection c → Held w c came sent → Held v c came (sent ++ [])
held-silent w v c came sent connection held = held-same w v c came sent (sent ++ []) connection (sym (append-nil sent)) held

-- ---- a note that is owed
slot-held : (v : RunState) (c : ℕ) (d : Connection) (came : List ℕ) (sent : List Sending) (slot : Slot) → Past d came sent → IsMove d (Treatment slot) → v.connection c ≡ Some (with_turn_slot slot d) → Held v c came (sent ++ [])
slot-held v c d came sent slot past may is = held-one v c (with_turn_slot slot d) came (sent ++ []) is (past-move d came sent (Treatment slot) past may (same-treated slot d))

-- after the fixed 507 the connection closes
local-closes : (crowded other : Bool) (status : ℕ) → local_response status ≡ Fixed → ((crowded || status == 507) || other) ≡ true
local-closes crowded other status fixed = by_test (status == 507) fixed
  where
    closes : (b : Bool) → ((b || true) || other) ≡ true
    closes true = refl
    closes false = refl

    by_test : (b : Bool) → (if b then Fixed else Says (error_answer status)) ≡ Fixed → ((crowded || b) || other) ≡ true
    by_test true is = closes crowded
    by_test false is = absurd (let never : ⊥ = cc in never)

local-held : (w : RunState) (c : ℕ) (d : Connection) (came : List ℕ) (sent : List Sending) (request : Request) (status : ℕ) → w.connection c ≡ Some d → model.due d ≡ Treat (Whole request) → Past d came sent → Held (state_after_note w (Local c status)) c came (sent ++ [])
local-held w c d came sent request status is owed past =
    let some : treated_request (due_of_connection w c) ≡ Some request = ap treated_request (ap due_if_open is ∙ owed) in
    let slot = local_slot (Some request) status d in
    let now : (state_after_note w (Local c status)).connection c ≡ Some (with_turn_slot slot d) = update_here w.connection c _ ∙ ap (option_map (λ connection. with_turn_slot (local_slot (treated_request (due_of_connection w c)) status connection) connection)) is ∙ ap (λ r. Some (with_turn_slot (local_slot r status d) d)) some in
    slot-held (state_after_note w (Local c status)) c d came sent slot past (rw owed (_, _, refl, local-closes (is_crowded d) request.close status)) now

refused-held : (w : RunState) (c : ℕ) (d : Connection) (came : List ℕ) (sent : List Sending) (fault : InFault) → w.connection c ≡ Some d → model.due d ≡ Refuse fault → Past d came sent → Held (state_after_note w (Local c (fault_status fault))) c came (sent ++ [])
refused-held w c d came sent fault is owed past =
    let none : treated_request (due_of_connection w c) ≡ None = ap treated_request (ap due_if_open is ∙ owed) in
    let slot = local_slot None (fault_status fault) d in
    let now : (state_after_note w (Local c (fault_status fault))).connection c ≡ Some (with_turn_slot slot d) = update_here w.connection c _ ∙ ap (option_map (λ connection. with_turn_slot (local_slot (treated_request (due_of_connection w c)) (fault_status fault) connection) connection)) is ∙ ap (λ r. Some (with_turn_slot (local_slot r (fault_status fault) d) d)) none in
    slot-held (state_after_note w (Local c (fault_status fault))) c d came sent slot past (rw owed refl) now

-- a request has a slot with this response
request-held : (w v : RunState) (c : ℕ) (d : Connection) (came : List ℕ) (sent : List Sending) (request : Request) (response : Response) → w.connection c ≡ Some d → model.due d ≡ Treat (Whole request) → Past d came sent → response ≢ Fixed
    → v.connection ≡ update nat_eq w.connection c (option_map (with_turn_slot (request_slot request false response)) (w.connection c)) → Held v c came (sent ++ [])
request-held w v c d came sent request response is owed past other changed =
    let slot = request_slot request false response in
    let now : v.connection c ≡ Some (with_turn_slot slot d) = ap (λ f. f c) changed ∙ update_here w.connection c _ ∙ ap (option_map (with_turn_slot slot)) is in
    slot-held v c d came sent slot past (rw owed (false, response, refl, λ fixed. absurd (other fixed))) now

-- the connections, where a request is treated
pub asked-changes : (w : RunState) (n c : ℕ) (key : Option PageKey) (request : Request) → treated_request (due_of_connection w c) ≡ Some request → (state_after_note w (asked n c key)).connection ≡ update nat_eq w.connection c (option_map (with_turn_slot (request_slot request false (Awaits (flight_awaited n)))) (w.connection c))
asked-changes w n c key request some = ap (λ r. (state_after_ask w n c key r).connection) some

pub hit-changes : (w : RunState) (c : ℕ) (key : PageKey) (request : Request) → treated_request (due_of_connection w c) ≡ Some request → (state_after_note w (Hit c key)).connection ≡ update nat_eq w.connection c (option_map (with_turn_slot (request_slot request false (Cached w.farm w.log key))) (w.connection c))
hit-changes w c key request some = ap (λ r. (state_after_hit w c key r).connection) some

pub flush-changes : (w : RunState) (v c : ℕ) (inv : Invalidation) (request : Request) → treated_request (due_of_connection w c) ≡ Some request → (state_after_note w (Flush v c inv)).connection ≡ update nat_eq w.connection c (option_map (with_turn_slot (request_slot request false (Awaits (flush_awaited v)))) (w.connection c))
flush-changes w v c inv request some = ap (λ r. (state_after_flush w v c inv r).connection) some

form-held : (m : Conditions) (w : RunState) (c : ℕ) (d : Connection) (came : List ℕ) (sent : List Sending) (request : Request) (note : Note) → w.connection c ≡ Some d → model.due d ≡ Treat (Whole request) → Past d came sent → IsRequestNote w c note
    → Held (state_after_note w note) c came (sent ++ sent_by c m note)
form-held m w c d came sent request note is owed past (inl local) = rw local.1 (local-held w c d came sent request local.0 is owed past)
form-held m w c d came sent request note is owed past (inr (inl ask)) =
    rw ask.1 (request-held w (state_after_note w (asked (flights_asked w.log + 1) c ask.0)) c d came sent request (Awaits (flight_awaited (flights_asked w.log + 1))) is owed past (λ e. cc e) (asked-changes w (flights_asked w.log + 1) c ask.0 request (ap treated_request (ap due_if_open is ∙ owed))))
form-held m w c d came sent request note is owed past (inr (inr (inl hit))) =
    rw hit.1 (request-held w (state_after_note w (Hit c hit.0)) c d came sent request (Cached w.farm w.log hit.0) is owed past (λ e. cc e) (hit-changes w c hit.0 request (ap treated_request (ap due_if_open is ∙ owed))))
form-held m w c d came sent request note is owed past (inr (inr (inr flush))) =
    rw flush.1 (request-held w (state_after_note w (Flush (flushes_begun w.log + 1) c flush.0)) c d came sent request (Awaits (flush_awaited (flushes_begun w.log + 1))) is owed past (λ e. cc e) (flush-changes w (flushes_begun w.log + 1) c flush.0 request (ap treated_request (ap due_if_open is ∙ owed))))

sent-here : (m : Conditions) (c : ℕ) (bytes : List ℕ) → sent_by c m (Sent c bytes) ≡ record { bytes = bytes; out_of_memory = m.out_of_memory } ∷ []
sent-here m c bytes =
    let here : nat_eq c c ≡ true = grind arith in
    rw here refl

sent-held : (m : Conditions) (w : RunState) (c : ℕ) (d : Connection) (came : List ℕ) (sent : List Sending) (slot : Slot) (bytes : List ℕ) → w.connection c ≡ Some d → (history.IsDueSending d (record { bytes = bytes; out_of_memory = m.out_of_memory })) → Past d came sent
    → Held (state_after_note w (Sent c bytes)) c came (sent ++ sent_by c m (Sent c bytes))
sent-held m w c d came sent slot bytes is may past =
    let now : (state_after_note w (Sent c bytes)).connection c ≡ Some (with_sent bytes d) = update_here w.connection c _ ∙ ap (option_map (with_sent bytes)) is in
    let v = state_after_note w (Sent c bytes) in
    let sending : Sending = record { bytes = bytes; out_of_memory = m.out_of_memory } in
    held-same v v c came (sent ++ sending ∷ []) (sent ++ sent_by c m (Sent c bytes)) refl (ap (λ xs. sent ++ xs) (sym (sent-here m c bytes))) (held-one v c (with_sent bytes d) came (sent ++ sending ∷ []) now (past-move d came sent (SentMove sending) past may (same-sent bytes d)))

gives-held : (m : Conditions) (w : RunState) (c : ℕ) (d : Connection) (came : List ℕ) (sent : List Sending) (owed : Due) (note : Note) → w.connection c ≡ Some d → model.due d ≡ owed → Past d came sent → GivesDue m w c owed note → Held (state_after_note w note) c came (sent ++ sent_by c m note)
gives-held m w c d came sent (Send slot) note is owed past gives =
    let answers : history.IsDueSending d (record { bytes = gives.0; out_of_memory = m.out_of_memory }) = record { slot = slot; is_due = owed; answers = ⊎_elim (λ written. inl written) (λ fixed. inr (fixed.0, fixed.1)) gives.2 } in
    rw gives.1 (sent-held m w c d came sent slot gives.0 is answers past)
gives-held m w c d came sent (Treat Continue) note is owed past gives = absurd gives
gives-held m w c d came sent (Treat (Whole request)) note is owed past gives = form-held m w c d came sent request note is owed past (treated-form m w c request note gives)
gives-held m w c d came sent (Refuse fault) note is owed past gives = rw gives (refused-held w c d came sent fault is owed past)
gives-held m w c d came sent Close note is owed past gives =
    let last = last-now d came (sent ++ []) (past-as d came sent (sent ++ []) (sym (append-nil sent)) past) (subst IsAtRest (sym owed) tt) in
    rw gives (held-none (state_after_note w (Shut c)) c came (sent ++ []) (update_here w.connection c None) last)
gives-held m w c d came sent Nothing note is owed past gives = absurd gives

pub connection-held : (m : Conditions) (w : RunState) (c : ℕ) (came : List ℕ) (sent : List Sending) (note : Note) (connection : Option Connection) → w.connection c ≡ connection → Held w c came sent → GivesDue m w c (due_if_open connection) note → Held (state_after_note w note) c came (sent ++ sent_by c m note)
connection-held m w c came sent note None is held gives = absurd gives
connection-held m w c came sent note (Some d) is held gives = gives-held m w c d came sent (model.due d) note is refl (held.here d is) gives

-- ---- what a slot waits for ends
pub ended-held : (w v : RunState) (c d : ℕ) (what : Awaited) (response : Response) (came : List ℕ) (sent : List Sending) → response ≢ Fixed → v.connection ≡ update nat_eq w.connection d (option_map (with_end what response) (w.connection d)) → Held w c came sent → Held v c came (sent ++ [])
ended-held w v c d what response came sent other changed held = ⊎_elim (moved (w.connection d) refl) (λ apart. held-silent w v c came sent (ap (λ f. f c) changed ∙ update_apart w.connection d _ c (λ x. apart (sym x))) held) (cases_eq d c)
  where
    moved : (at : Option Connection) → w.connection d ≡ at → d ≡ c → Held v c came (sent ++ [])
    moved None is x =
        let none : v.connection d ≡ None = ap (λ f. f d) changed ∙ update_here w.connection d _ ∙ ap (option_map (with_end what response)) is in
        held-silent w v c came sent (subst (λ y. v.connection y ≡ w.connection y) x (none ∙ sym is)) held
    moved (Some k) is x =
        let now : v.connection d ≡ Some (with_end what response k) = ap (λ f. f d) changed ∙ update_here w.connection d _ ∙ ap (option_map (with_end what response)) is in
        let past : Past k came sent = held.here k (sym (ap w.connection x) ∙ is) in
        subst (λ y. Held v y came (sent ++ [])) x (held-one v d (with_end what response k) came (sent ++ []) now (past-move k came sent (Ending what response) past other (same-end what response k)))

pub over-held : (w : RunState) (c n : ℕ) (answer : Answer) (entry : LogEntry) (came : List ℕ) (sent : List Sending) (at : Option Flying) → Held w c came sent → Held (over_with w n answer entry at) c came (sent ++ [])
over-held w c n answer entry came sent None held = held-silent w w c came sent refl held
over-held w c n answer entry came sent (Some f) held = ended-held w (over_with w n answer entry (Some f)) c f.connection (flight_awaited n) (Says answer) came sent (λ e. cc e) refl held

ending-held : (w : RunState) (c v : ℕ) (outcome : FlushOutcome) (answer : Answer) (came : List ℕ) (sent : List Sending) (at : Option Flushing) → Held w c came sent → Held (state_after_ending w v outcome (Says answer) at) c came (sent ++ [])
ending-held w c v outcome answer came sent None held = held-silent w w c came sent refl held
ending-held w c v outcome answer came sent (Some f) held = ended-held w (state_after_ending w v outcome (Says answer) (Some f)) c f.connection (flush_awaited v) (Says answer) came sent (λ e. cc e) refl held

pub slice-held : (m : Conditions) (w : RunState) (c v : ℕ) (came : List ℕ) (sent : List Sending) (note : Note) → Held w c came sent → IsSliceNote v note → Held (state_after_note w note) c came (sent ++ sent_by c m note)
slice-held m w c v came sent note held (inl done) = rw done (ending-held w c v done_outcome (error_answer 200) came sent (flush_at v w.flushes) held)
slice-held m w c v came sent note held (inr (inl sliced)) = rw sliced (held-silent w (state_after_note w (Sliced v)) c came sent refl held)
slice-held m w c v came sent note held (inr (inr failed)) = rw failed.1 (ending-held w c v failed_outcome (error_answer (failure_status failed.0)) came sent (flush_at v w.flushes) held)

pub next-held : (m : Conditions) (w : RunState) (c : ℕ) (came : List ℕ) (sent : List Sending) (slicing : Option ℕ) (note : Note) → Held w c came sent → GivesNext m w c slicing note → Held (state_after_note w note) c came (sent ++ sent_by c m note)
next-held m w c came sent None note held gives = connection-held m w c came sent note (w.connection c) refl held gives
next-held m w c came sent (Some v) note held gives = slice-held m w c v came sent note held (slice-form m v note gives)

pub serves-held : (m : Conditions) (w : RunState) (c : ℕ) (came : List ℕ) (sent : List Sending) (notes : List Note) → Held w c came sent → Serves m w c notes → Held (state_after_notes w notes) c came (sent ++ sent_in c m notes)
serves-held m w c came sent [] held serves = held-silent w w c came sent refl held
serves-held m w c came sent (note ∷ notes) held serves =
    let one = next-held m w c came sent w.slicing note held serves.0 in
    let rest = serves-held m (state_after_note w note) c came (sent ++ sent_by c m note) notes one serves.1 in
    let v = state_after_notes (state_after_note w note) notes in
    held-same v v c came ((sent ++ sent_by c m note) ++ sent_in c m notes) (sent ++ sent_in c m (note ∷ notes)) refl (append_assoc sent (sent_by c m note) (sent_in c m notes)) rest
