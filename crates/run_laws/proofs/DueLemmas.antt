-- Between events nothing is due to any connection.
use Rattle.std.proofs.Common.{◌≡◌, ◌≢◌, ◌+◌, ◌++◌, ◌∙◌, ℕ, Bool, true, false, List, [], ◌∷◌, Option, Some, None, refl, ap, sym, subst, inl, inr, ⊎_elim}
use Rattle.std.specs.Prelude.{if◌then◌else◌, nat_eq, slice_get}
use Rattle.std.specs.List.{AllByRecursion}
use Rattle.std.specs.Map.{update}
use Rattle.std.specs.Option.{option_map}
use Rattle.std.proofs.lemmas.Map.{update_apart, update_here}
use Rattle.std.proofs.lemmas.Bool.{cases_eq}
use Rattle.sp_base.specs.declared.answer.Answer.{Answer}
use Rattle.sp_base.specs.Requests.{Request}
use Rattle.cover_rules.specs.declared.page.PageKey.{PageKey}
use Rattle.cover_rules.specs.declared.invalidation.Invalidation.{Invalidation}
use Rattle.cache_log.specs.Entries.{LogEntry, FlushOutcome}
use Rattle.connections.specs.declared.awaited.Awaited.{Awaited}
use Rattle.connections.specs.Slots.{Response, Slot, is_answered}
use Rattle.connections.specs.Connections.{Close, Connection, Due, Nothing, Refuse, Send, Treat, due, due_at_slot, due_at_turn, due_without_sending, next_turn, with_end, with_sent}
use Rattle.connections.proofs.PlaceLemmas.{length-filled}
use Rattle.run_events.specs.declared.conditions.Conditions.{Conditions}
use Rattle.run_events.specs.declared.flying.Flying.{Flying}
use Rattle.run_events.specs.declared.flying.Flushing.{Flushing}
use Rattle.run_events.specs.declared.note.Note.{Note}
use Rattle.run_events.specs.declared.note.Note.TheVariants.{Sent, Shut}
use Rattle.run_events.specs.States.{RunState}
use Rattle.run_events.specs.Moves.{GivesDue, GivesNext, Serves, Settles, due_if_open, due_of_connection, first_sliced, flush_at, on_connection, over_with, state_after_ask, state_after_ending, state_after_flush, state_after_hit, state_after_note, state_after_notes, treated_request}
use Rattle.run_laws.proofs.FormLemmas.{IsDueNote, IsRequestNote, IsSliceNote, next-form}

-- ---- a connection without a turn that is due
-- which turn is due, or what is due after all turns, whatever is to be sent before
abbrev turn_due : Connection → Due
turn_due k = if k.closing then Nothing else due_at_turn (next_turn k) k.ends

-- no turn is due
abbrev HasNoTurn : Connection → Type 0
HasNoTurn k = turn_due k ≡ Nothing

without-sending : (k : Connection) → due_without_sending k ≡ Nothing → HasNoTurn k
without-sending k none = by_over k.over none
  where
    by_over : (over : Bool) → (if over then Close else turn_due k) ≡ Nothing → HasNoTurn k
    by_over true e = absurd (cc e)
    by_over false e = e

at-slot : (k : Connection) (slot : Option Slot) → due_at_slot slot k ≡ Nothing → HasNoTurn k
at-slot k None none = without-sending k none
at-slot k (Some slot) none = by_answer (is_answered slot.response) none
  where
    by_answer : (answered : Bool) → (if answered then Send slot else due_without_sending k) ≡ Nothing → HasNoTurn k
    by_answer true e = absurd (cc e)
    by_answer false e = without-sending k e

no-turn : (k : Connection) → due k ≡ Nothing → HasNoTurn k
no-turn k none = by_over k.over none
  where
    by_over : (over : Bool) → (if over then Close else due_at_slot (slice_get k.slots k.sent) k) ≡ Nothing → HasNoTurn k
    by_over true e = absurd (cc e)
    by_over false e = at-slot k (slice_get k.slots k.sent) e

-- an answer or the end is due, or nothing
abbrev IsSendingDue : Due → Type 0
IsSendingDue (Treat turn) = ⊥
IsSendingDue (Refuse fault) = ⊥
IsSendingDue _ = Unit {0}

sending-without : (k : Connection) → HasNoTurn k → IsSendingDue (due_without_sending k)
sending-without k none = by_over k.over
  where
    by_over : (over : Bool) → IsSendingDue (if over then Close else turn_due k)
    by_over true = tt
    by_over false = subst IsSendingDue (sym none) tt

sending-slot : (k : Connection) (slot : Option Slot) → HasNoTurn k → IsSendingDue (due_at_slot slot k)
sending-slot k None none = sending-without k none
sending-slot k (Some slot) none = by_answer (is_answered slot.response)
  where
    by_answer : (answered : Bool) → IsSendingDue (if answered then Send slot else due_without_sending k)
    by_answer true = tt
    by_answer false = sending-without k none

sending-due : (k : Connection) → HasNoTurn k → IsSendingDue (due k)
sending-due k none = by_over k.over
  where
    by_over : (over : Bool) → IsSendingDue (if over then Close else due_at_slot (slice_get k.slots k.sent) k)
    by_over true = tt
    by_over false = sending-slot k (slice_get k.slots k.sent) none

ended-no-turn : (what : Awaited) (response : Response) (k : Connection) → HasNoTurn k → HasNoTurn (with_end what response k)
ended-no-turn what response k none = ap (λ (n : ℕ). if k.closing then Nothing else due_at_turn (slice_get k.turns n) k.ends) (length-filled what response k.slots) ∙ none

-- ---- a state without a turn that is due
abbrev pub HasNoTurns : RunState → Type 0
HasNoTurns w = (c : ℕ) (k : Connection) → w.connection c ≡ Some k → HasNoTurn k

pub no-turns : (w : RunState) → ((c : ℕ) → due_of_connection w c ≡ Nothing) → HasNoTurns w
no-turns w none c k at = no-turn k (sym (ap due_if_open at) ∙ none c)

changed-turns : (w : RunState) (d : ℕ) (change : Connection → Connection) → ((k : Connection) → HasNoTurn k → HasNoTurn (change k)) → HasNoTurns w
    → (c : ℕ) (k : Connection) → update nat_eq w.connection d (option_map change (w.connection d)) c ≡ Some k → HasNoTurn k
changed-turns w d change keeps none c k at = ⊎_elim
    (λ same. here (w.connection d) refl (sym (update_here w.connection d (option_map change (w.connection d))) ∙ subst (λ x. update nat_eq w.connection d (option_map change (w.connection d)) x ≡ Some k) (sym same) at))
    (λ apart. none c k (sym (update_apart w.connection d (option_map change (w.connection d)) c (λ e. apart (sym e))) ∙ at))
    (cases_eq d c)
  where
    here : (o : Option Connection) → w.connection d ≡ o → option_map change o ≡ Some k → HasNoTurn k
    here None is e = absurd (cc e)
    here (Some j) is e = let same : change j ≡ k = cc e in subst HasNoTurn same (keeps j (none d j is))

gone-turns : (w : RunState) (d : ℕ) → HasNoTurns w → (c : ℕ) (k : Connection) → update nat_eq w.connection d None c ≡ Some k → HasNoTurn k
gone-turns w d none c k at = ⊎_elim
    (λ same. absurd (let never : None ≡ Some k = sym (update_here w.connection d None) ∙ subst (λ x. update nat_eq w.connection d None x ≡ Some k) (sym same) at in cc never))
    (λ apart. none c k (sym (update_apart w.connection d None c (λ e. apart (sym e))) ∙ at))
    (cases_eq d c)

pub over-turns : (w : RunState) (n : ℕ) (answer : Answer) (entry : LogEntry) (at : Option Flying) → HasNoTurns w → HasNoTurns (over_with w n answer entry at)
over-turns w n answer entry None none = none
over-turns w n answer entry (Some f) none = changed-turns w f.connection _ (λ k has. ended-no-turn _ _ k has) none

pub ending-turns : (w : RunState) (v : ℕ) (outcome : FlushOutcome) (response : Response) (at : Option Flushing) → HasNoTurns w → HasNoTurns (state_after_ending w v outcome response at)
ending-turns w v outcome response None none = none
ending-turns w v outcome response (Some f) none = changed-turns w f.connection _ (λ k has. ended-no-turn _ _ k has) none

-- ---- what is given where no turn is due
-- the note sends bytes, or shuts a connection
abbrev pub IsSendingNote : Note → Type 0
IsSendingNote (Sent c bytes) = Unit {0}
IsSendingNote (Shut c) = Unit {0}
IsSendingNote _ = ⊥

gives-sending : (m : Conditions) (w : RunState) (c : ℕ) (owed : Due) (note : Note) → IsSendingDue owed → GivesDue m w c owed note → IsSendingNote note
gives-sending m w c (Send slot) note is gives = rw gives.1 tt
gives-sending m w c (Treat turn) note is gives = absurd is
gives-sending m w c (Refuse fault) note is gives = absurd is
gives-sending m w c Close note is gives = rw gives tt
gives-sending m w c Nothing note is gives = absurd gives

open-sending : (o : Option Connection) → ((k : Connection) → o ≡ Some k → HasNoTurn k) → IsSendingDue (due_if_open o)
open-sending None none = tt
open-sending (Some k) none = sending-due k (none k refl)

sending-turns : (w : RunState) (note : Note) → IsSendingNote note → HasNoTurns w → HasNoTurns (state_after_note w note)
sending-turns w (Sent c bytes) is none = changed-turns w c (with_sent bytes) (λ k has. has) none
sending-turns w (Shut c) is none = gone-turns w c none
sending-turns w note is none = absurd is

sending-slicing : (w : RunState) (note : Note) → IsSendingNote note → (state_after_note w note).slicing ≡ w.slicing
sending-slicing w (Sent c bytes) is = refl
sending-slicing w (Shut c) is = refl
sending-slicing w note is = absurd is

sending-flights : (w : RunState) (note : Note) → IsSendingNote note → (state_after_note w note).flights ≡ w.flights
sending-flights w (Sent c bytes) is = refl
sending-flights w (Shut c) is = refl
sending-flights w note is = absurd is

-- the notes only send bytes and shut connections, and leave the flights
pub record OnlySend (w : RunState) (notes : List Note) : Type 0 where
  pub sending : AllByRecursion IsSendingNote notes
  pub flights : (state_after_notes w notes).flights ≡ w.flights

pub serves-send : (m : Conditions) (w : RunState) (c : ℕ) (notes : List Note) → w.slicing ≡ None → HasNoTurns w → Serves m w c notes → OnlySend w notes
serves-send m w c [] slicing none serves = record { sending = tt; flights = refl }
serves-send m w c (note ∷ notes) slicing none serves =
    let gives : GivesNext m w c None note = subst (λ s. GivesNext m w c s note) slicing serves.0 in
    let is : IsSendingNote note = gives-sending m w c (due_of_connection w c) note (open-sending (w.connection c) (none c)) gives in
    let rest = serves-send m (state_after_note w note) c notes (sending-slicing w note is ∙ slicing) (sending-turns w note is none) serves.1 in
    record { sending = (is, rest.sending); flights = rest.flights ∙ sending-flights w note is }

-- ---- a connection that is being given what it is owed
-- Nothing is due to any other connection; and a flush whose slice is due is this one's.
pub record ServesOne (w : RunState) (c : ℕ) : Type 0 where
  pub others : (q : ℕ) → q ≢ c → due_of_connection w q ≡ Nothing
  pub slices : (v : ℕ) (f : Flushing) → w.slicing ≡ Some v → flush_at v w.flushes ≡ Some f → f.connection ≡ c

other-due : (w : RunState) (c : ℕ) (o : Option Connection) → ((q : ℕ) → q ≢ c → due_of_connection w q ≡ Nothing) → (q : ℕ) → q ≢ c → due_if_open (update nat_eq w.connection c o q) ≡ Nothing
other-due w c o others q apart = ap due_if_open (update_apart w.connection c o q apart) ∙ others q apart

one-asked : (w : RunState) (n c : ℕ) (key : Option PageKey) (request : Option Request) → ServesOne w c → ServesOne (state_after_ask w n c key request) c
one-asked w n c key None one = one
one-asked w n c key (Some request) one = record { others = other-due w c _ one.others; slices = one.slices }

one-hit : (w : RunState) (c : ℕ) (key : PageKey) (request : Option Request) → ServesOne w c → ServesOne (state_after_hit w c key request) c
one-hit w c key None one = one
one-hit w c key (Some request) one = record { others = other-due w c _ one.others; slices = one.slices }

-- the flush whose first slice is due is the one that began
first-slice : (flushes : List Flushing) (n c v : ℕ) (f : Flushing) → first_sliced flushes n ≡ Some v → flush_at v (flushes ++ record { number = n; connection = c } ∷ []) ≡ Some f → f.connection ≡ c
first-slice [] n c v f is at = by_test (nat_eq n v) at
  where
    by_test : (b : Bool) → (if b then Some (record { number = n; connection = c }) else None) ≡ Some f → f.connection ≡ c
    by_test true e = let same : record { number = n; connection = c } ≡ f = cc e in ap (λ (x : Flushing). x.connection) (sym same)
    by_test false e = absurd (cc e)
first-slice (flush ∷ flushes) n c v f is at = absurd (cc is)

one-flush : (w : RunState) (v c : ℕ) (inv : Invalidation) (request : Option Request) → ServesOne w c → ServesOne (state_after_flush w v c inv request) c
one-flush w v c inv None one = one
one-flush w v c inv (Some request) one = record { others = other-due w c _ one.others; slices = λ n f is at. first-slice w.flushes v c n f is at }

one-ending : (w : RunState) (v c : ℕ) (outcome : FlushOutcome) (response : Response) (at : Option Flushing) → ((f : Flushing) → at ≡ Some f → f.connection ≡ c) → ServesOne w c → ServesOne (state_after_ending w v outcome response at) c
one-ending w v c outcome response None is one = one
one-ending w v c outcome response (Some f) is one = record {
  others = λ q apart. other-due w f.connection _ (λ p away. one.others p (λ same. away (same ∙ sym (is f refl)))) q (λ same. apart (same ∙ is f refl));
  slices = λ n g none at. absurd (cc none);
}

pub one-request : (w : RunState) (c : ℕ) (note : Note) → IsRequestNote w c note → ServesOne w c → ServesOne (state_after_note w note) c
one-request w c note (inl local) one = rw local.1 (record { others = other-due w c _ one.others; slices = one.slices })
one-request w c note (inr (inl ask)) one = rw ask.1 (one-asked w _ c ask.0 (treated_request (due_of_connection w c)) one)
one-request w c note (inr (inr (inl hit))) one = rw hit.1 (one-hit w c hit.0 (treated_request (due_of_connection w c)) one)
one-request w c note (inr (inr (inr flush))) one = rw flush.1 (one-flush w _ c flush.0 (treated_request (due_of_connection w c)) one)

pub one-slice : (w : RunState) (v c : ℕ) (note : Note) → ((f : Flushing) → flush_at v w.flushes ≡ Some f → f.connection ≡ c) → IsSliceNote v note → ServesOne w c → ServesOne (state_after_note w note) c
one-slice w v c note is (inl done) one = rw done (one-ending w v c _ _ (flush_at v w.flushes) is one)
one-slice w v c note is (inr (inl sliced)) one = rw sliced (record { others = one.others; slices = λ n f none at. absurd (cc none) })
one-slice w v c note is (inr (inr failed)) one = rw failed.1 (one-ending w v c _ _ (flush_at v w.flushes) is one)

one-due : (w : RunState) (c : ℕ) (note : Note) → IsDueNote w c note → ServesOne w c → ServesOne (state_after_note w note) c
one-due w c note (inl request) one = one-request w c note request one
one-due w c note (inr (inl sent)) one = rw sent.1 (record { others = other-due w c _ one.others; slices = one.slices })
one-due w c note (inr (inr (inl shut))) one = rw shut (record { others = other-due w c _ one.others; slices = one.slices })
one-due w c note (inr (inr (inr slice))) one = one-slice w slice.0 c note (λ f at. one.slices slice.0 f slice.1 at) slice.2 one

one-serves : (m : Conditions) (w : RunState) (c : ℕ) (notes : List Note) → Serves m w c notes → ServesOne w c → ServesOne (state_after_notes w notes) c
one-serves m w c [] serves one = one
one-serves m w c (note ∷ notes) serves one = one-serves m (state_after_note w note) c notes serves.1 (one-due w c note (next-form m w c w.slicing note refl serves.0) one)

-- nothing is due to any connection, and no slice
pub record IsGiven (w : RunState) : Type 0 where
  pub connections : (c : ℕ) → due_of_connection w c ≡ Nothing
  pub slicing : w.slicing ≡ None

pub settles-given : (m : Conditions) (w : RunState) (c : ℕ) (notes : List Note) → Settles m w c notes → ServesOne w c → IsGiven (state_after_notes w notes)
settles-given m w c notes settles one = record {
  connections = λ q. ⊎_elim (λ same. subst (λ x. due_of_connection (state_after_notes w notes) x ≡ Nothing) same settles.idle) (λ apart. (one-serves m w c notes settles.serves one).others q (λ e. apart (sym e))) (cases_eq c q);
  slicing = settles.sliced;
}

-- one connection changes, and nothing was due to any
pub one-changed : (w : RunState) (c : ℕ) (f : Connection → Connection) → IsGiven w → ServesOne (on_connection w c f) c
one-changed w c f given = record { others = other-due w c _ (λ q apart. given.connections q); slices = λ v flush is at. absurd (let none : None ≡ Some v = sym given.slicing ∙ is in cc none) }

pub one-over : (w : RunState) (n : ℕ) (answer : Answer) (entry : LogEntry) (f : Flying) → IsGiven w → ServesOne (over_with w n answer entry (Some f)) f.connection
one-over w n answer entry f given = record { others = other-due w f.connection _ (λ q apart. given.connections q); slices = λ v flush is at. absurd (let none : None ≡ Some v = sym given.slicing ∙ is in cc none) }

pub one-given : (w : RunState) (c : ℕ) → IsGiven w → ServesOne w c
one-given w c given = record { others = λ q apart. given.connections q; slices = λ v flush is at. absurd (let none : None ≡ Some v = sym given.slicing ∙ is in cc none) }

-- ---- what changes one connection that isn't there, or takes one away, or brings one
absent-due : (w : RunState) (c : ℕ) (o : Option Connection) → due_if_open o ≡ Nothing → ((q : ℕ) → due_of_connection w q ≡ Nothing) → (q : ℕ) → due_if_open (update nat_eq w.connection c o q) ≡ Nothing
absent-due w c o none given q = ⊎_elim
    (λ same. subst (λ x. due_if_open (update nat_eq w.connection c o x) ≡ Nothing) same (ap due_if_open (update_here w.connection c o) ∙ none))
    (λ apart. ap due_if_open (update_apart w.connection c o q (λ e. apart (sym e))) ∙ given q)
    (cases_eq c q)

pub given-with : (w : RunState) (c : ℕ) (o : Option Connection) (count : ℕ) → due_if_open o ≡ Nothing → IsGiven w → IsGiven (record w { connection = update nat_eq w.connection c o; connection_count = count })
given-with w c o count none given = record { connections = absent-due w c o none given.connections; slicing = given.slicing }

-- a piece on a connection that isn't there
pub given-absent : (w : RunState) (c : ℕ) (f : Connection → Connection) → w.connection c ≡ None → IsGiven w → IsGiven (on_connection w c f)
given-absent w c f none given = record { connections = absent-due w c (option_map f (w.connection c)) (ap (λ o. due_if_open (option_map f o)) none) given.connections; slicing = given.slicing }
