-- The flights of a run have numbers that rise.
use Rattle.std.proofs.Common.{◌≡◌, ℕ, ◌+◌, ◌++◌, Bool, true, false, List, [], ◌∷◌, Option, Some, None, refl, subst, inl, inr, arith}
use Rattle.std.specs.Prelude.{if◌then◌else◌, nat_eq, nat_le}
use Rattle.std.specs.List.{find}
use Rattle.std.specs.Map.{update}
use Rattle.sp_base.specs.declared.answer.Answer.{Answer}
use Rattle.sp_base.specs.Requests.{Request}
use Rattle.cover_rules.specs.declared.page.PageKey.{PageKey}
use Rattle.cover_rules.specs.declared.invalidation.Invalidation.{Invalidation}
use Rattle.error_answers.specs.Errors.{error_answer}
use Rattle.cache_log.specs.Entries.{Fate, LogEntry, Landed, Lost as lost_entry, FlushOutcome, Done as done_outcome, Failed as failed_outcome, flights_asked}
use Rattle.connections.specs.Connections.{Connection, fresh, with_piece}
use Rattle.connections.specs.Slots.{Response}
use Rattle.run_events.specs.declared.conditions.Conditions.{Conditions}
use Rattle.run_events.specs.declared.flying.Flying.{Flying}
use Rattle.run_events.specs.declared.flying.Flushing.{Flushing}
use Rattle.run_events.specs.declared.note.Note.{Note}
use Rattle.run_events.specs.declared.note.Note.TheVariants.{Ask as asked, Hit, Local, Flush, Sliced, Done, Failed, Rendered, Kept, Unkept, Passed, Lost, Sent, Shut, Refused, Idle, Up, Down}
use Rattle.run_events.specs.declared.step.Step.{Step}
use Rattle.run_events.specs.declared.step.Step.TheVariants as step
use Rattle.run_events.specs.States.{AreFlightsRising, AirRises, RunState, Start, start_of}
use Rattle.run_events.specs.Moves.{Serves, answer_in, due_of_connection, flying_at, flush_at, key_in, new_flight, on_connection, over_with, state_after_ask, state_after_ending, state_after_flush, state_after_hit, state_after_landing, state_after_note, state_after_notes, treated_request}
use Rattle.run_events.specs.Restarts.{without_connections}
use Rattle.run_events.specs.Events.{DeliverAs, DeliverTo, Event, HappensBy, LeadsNotes, LoseTo, PieceTo, PurgeTo, RenderTo, Run, after_event, going, is_any, is_rendered, is_unrendered, most_connections, opening, picked_flight, state_after_events, state_after_going, state_after_opening, state_before_notes}
use Rattle.run_laws.proofs.NumberedLemmas.{Rising, rising-but, rising-push}
use Rattle.run_laws.proofs.SoundLemmas.{flight_number, rendered-rising}
use Rattle.run_laws.proofs.SoundEventLemmas.{picked-at}
use Rattle.run_laws.proofs.FormLemmas.{AreCutNotes, IsCutNote, IsDueNote, IsLandingNote, IsSliceNote, landing-form, next-form, restart-cut, slice-form}

abbrev pub Numbered : RunState → Type 0
Numbered w = Rising flight_number 0 w.flights (flights_asked w.log)

-- a flight that is asked has the next number
abbrev pub IsAskNext : RunState → Note → Type 0
IsAskNext w (asked n c key) = n ≡ flights_asked w.log + 1
IsAskNext w _ = Unit {0}

abbrev pub AllAskNext : RunState → List Note → Type 0
AllAskNext w [] = Unit {0}
AllAskNext w (note ∷ notes) = IsAskNext w note × AllAskNext (state_after_note w note) notes

-- ---- a note
asked-numbered : (w : RunState) (n c : ℕ) (key : Option PageKey) (request : Option Request) → n ≡ flights_asked w.log + 1 → Numbered w → Numbered (state_after_ask w n c key request)
asked-numbered w n c key None next numbered = numbered
asked-numbered w n c key (Some request) next numbered = subst (λ most. Rising flight_number 0 (w.flights ++ new_flight n c request ∷ []) most) next (rising-push flight_number 0 w.flights (flights_asked w.log) (new_flight n c request) numbered (omega (arith, next)))

hit-numbered : (w : RunState) (c : ℕ) (key : PageKey) (request : Option Request) → Numbered w → Numbered (state_after_hit w c key request)
hit-numbered w c key None numbered = numbered
hit-numbered w c key (Some request) numbered = numbered

flush-numbered : (w : RunState) (v c : ℕ) (inv : Invalidation) (request : Option Request) → Numbered w → Numbered (state_after_flush w v c inv request)
flush-numbered w v c inv None numbered = numbered
flush-numbered w v c inv (Some request) numbered = numbered

ending-numbered : (w : RunState) (v : ℕ) (outcome : FlushOutcome) (response : Response) (at : Option Flushing) → Numbered w → Numbered (state_after_ending w v outcome response at)
ending-numbered w v outcome response None numbered = numbered
ending-numbered w v outcome response (Some f) numbered = numbered

over-numbered : (w : RunState) (n : ℕ) (answer : Answer) (entry : LogEntry) (at : Option Flying) → flights_asked (entry ∷ w.log) ≡ flights_asked w.log → Numbered w → Numbered (over_with w n answer entry at)
over-numbered w n answer entry None same numbered = numbered
over-numbered w n answer entry (Some f) same numbered = rw same (rising-but flight_number n 0 w.flights (flights_asked w.log) numbered)

landing-numbered : (w : RunState) (n : ℕ) (fate : Fate) (at : Option Flying) → Numbered w → Numbered (state_after_landing w n fate at)
landing-numbered w n fate at numbered = over-numbered w n (answer_in at) (Landed n (key_in w at) (answer_in at) fate) at refl numbered

pub note-numbered : (w : RunState) (note : Note) → IsAskNext w note → Numbered w → Numbered (state_after_note w note)
note-numbered w (asked n c key) next numbered = asked-numbered w n c key (treated_request (due_of_connection w c)) next numbered
note-numbered w (Hit c key) next numbered = hit-numbered w c key (treated_request (due_of_connection w c)) numbered
note-numbered w (Local c status) next numbered = numbered
note-numbered w (Flush v c inv) next numbered = flush-numbered w v c inv (treated_request (due_of_connection w c)) numbered
note-numbered w (Sliced v) next numbered = numbered
note-numbered w (Done v) next numbered = ending-numbered w v done_outcome _ (flush_at v w.flushes) numbered
note-numbered w (Failed v failure) next numbered = ending-numbered w v failed_outcome _ (flush_at v w.flushes) numbered
note-numbered w (Rendered n answer) next numbered = rendered-rising n answer 0 w.flights (flights_asked w.log) numbered
note-numbered w (Kept n key) next numbered = landing-numbered w n _ (flying_at n w.flights) numbered
note-numbered w (Unkept n) next numbered = landing-numbered w n _ (flying_at n w.flights) numbered
note-numbered w (Passed n) next numbered = landing-numbered w n _ (flying_at n w.flights) numbered
note-numbered w (Lost n) next numbered = over-numbered w n (error_answer 502) (lost_entry n) (flying_at n w.flights) refl numbered
note-numbered w (Sent c bytes) next numbered = numbered
note-numbered w (Shut c) next numbered = numbered
note-numbered w (Up epoch) next numbered = numbered
note-numbered w Down next numbered = numbered
note-numbered w note next numbered = numbered

pub notes-numbered : (w : RunState) (notes : List Note) → AllAskNext w notes → Numbered w → Numbered (state_after_notes w notes)
notes-numbered w [] next numbered = numbered
notes-numbered w (note ∷ notes) next numbered = notes-numbered (state_after_note w note) notes next.1 (note-numbered w note next.0 numbered)

-- ---- notes that are due
pub slice-asks : (w : RunState) (v : ℕ) (note : Note) → IsSliceNote v note → IsAskNext w note
slice-asks w v note (inl done) = rw done tt
slice-asks w v note (inr (inl sliced)) = rw sliced tt
slice-asks w v note (inr (inr failed)) = rw failed.1 tt

pub due-asks : (w : RunState) (c : ℕ) (note : Note) → IsDueNote w c note → IsAskNext w note
due-asks w c note (inl (inl is)) = rw is.1 tt
due-asks w c note (inl (inr (inl ask))) = rw ask.1 refl
due-asks w c note (inl (inr (inr (inl hit)))) = rw hit.1 tt
due-asks w c note (inl (inr (inr (inr flush)))) = rw flush.1 tt
due-asks w c note (inr (inl sent)) = rw sent.1 tt
due-asks w c note (inr (inr (inl shut))) = rw shut tt
due-asks w c note (inr (inr (inr slice))) = slice-asks w slice.0 note slice.2

pub serves-ask : (m : Conditions) (w : RunState) (c : ℕ) (notes : List Note) → Serves m w c notes → AllAskNext w notes
serves-ask m w c [] serves = tt
serves-ask m w c (note ∷ notes) serves = (due-asks w c note (next-form m w c w.slicing note refl serves.0), serves-ask m (state_after_note w note) c notes serves.1)

-- ---- the notes of a step
idle-ask : (w : RunState) (notes : List Note) → notes ≡ Idle ∷ [] → AllAskNext w notes
idle-ask w notes is = rw is (tt, tt)

opening-ask : (w : RunState) (c count : ℕ) (at : Option Connection) (notes : List Note) → notes ≡ opening c count at → AllAskNext w notes
opening-ask w c count (Some k) notes is = idle-ask w notes is
opening-ask w c count None notes is = by_room (nat_le most_connections count) is
  where
    by_room : (full : Bool) → notes ≡ (if full then Refused c ∷ [] else []) → AllAskNext w notes
    by_room true is = rw is (tt, tt)
    by_room false is = rw is tt

going-ask : (w : RunState) (at : Option Connection) (notes : List Note) → notes ≡ going at → AllAskNext w notes
going-ask w None notes is = idle-ask w notes is
going-ask w (Some k) notes is = rw is tt

piece-ask : (w : RunState) (e : Event) (c : ℕ) (bytes : List ℕ) (at : Option Connection) → PieceTo w e c bytes at → AllAskNext (on_connection w c (with_piece bytes e.turns e.ends)) e.body
piece-ask w e c bytes None to = idle-ask (on_connection w c (with_piece bytes e.turns e.ends)) e.body to
piece-ask w e c bytes (Some k) to = serves-ask e.conditions (on_connection w c (with_piece bytes e.turns e.ends)) c e.body to.settles.serves

render-ask : (w : RunState) (e : Event) (flying : Option Flying) → RenderTo w e flying → AllAskNext w e.body
render-ask w e None to = idle-ask w e.body to
render-ask w e (Some f) to = rw to.2 (tt, tt)

leads-ask : (m : Conditions) (w : RunState) (first : Note) (c : ℕ) (notes : List Note) → IsAskNext w first → LeadsNotes w m first c notes → AllAskNext w notes
leads-ask m w first c notes next leads = rw leads.begins (next, serves-ask m (state_after_note w first) c leads.rest leads.settles.serves)

pub landing-asks : (w : RunState) (n : ℕ) (note : Note) → IsLandingNote n note → IsAskNext w note
landing-asks w n note (inl kept) = rw kept.1 tt
landing-asks w n note (inr (inl unkept)) = rw unkept tt
landing-asks w n note (inr (inr passed)) = rw passed tt

deliver-ask : (w : RunState) (e : Event) (f : Flying) (answer : Option Answer) → DeliverAs w e f answer → AllAskNext w e.body
deliver-ask w e f None to = idle-ask w e.body to
deliver-ask w e f (Some answer) to = leads-ask e.conditions w to.0 f.connection e.body (landing-asks w f.number to.0 (landing-form w e.conditions f answer to.0 to.1)) to.2

delivers-ask : (w : RunState) (e : Event) (flying : Option Flying) → DeliverTo w e flying → AllAskNext w e.body
delivers-ask w e None to = idle-ask w e.body to
delivers-ask w e (Some f) to = deliver-ask w e f f.rendered to

loses-ask : (w : RunState) (e : Event) (flying : Option Flying) → LoseTo w e flying → AllAskNext w e.body
loses-ask w e None to = idle-ask w e.body to
loses-ask w e (Some f) to = leads-ask e.conditions w (Lost f.number) f.connection e.body tt to

purges-ask : (w : RunState) (e : Event) (flushes : List Flushing) → PurgeTo w e flushes → AllAskNext w e.body
purges-ask w e [] to = idle-ask w e.body to
purges-ask w e (flush ∷ flushes) to = leads-ask e.conditions w to.0 flush.connection e.body (slice-asks w flush.number to.0 (slice-form e.conditions flush.number to.0 to.1)) to.2

cut-ask : (w : RunState) (notes : List Note) → AreCutNotes notes → AllAskNext w notes
cut-ask w [] are = tt
cut-ask w (note ∷ notes) are = (one note are.0, cut-ask (state_after_note w note) notes are.1)
  where
    one : (note : Note) → IsCutNote note → IsAskNext w note
    one (asked n c key) is = absurd is
    one note is = tt

pub step-ask : (w : RunState) (e : Event) (s : Step) → HappensBy w e s → AllAskNext (state_before_notes w e s) e.body
step-ask w e (step.Opened c peer) is = opening-ask (state_before_notes w e (step.Opened c peer)) c w.connection_count (w.connection c) e.body is
step-ask w e (step.Piece c bytes) to = piece-ask w e c bytes (w.connection c) to
step-ask w e (step.Gone c) is = going-ask (state_before_notes w e (step.Gone c)) (w.connection c) e.body is
step-ask w e (step.Direct target) to = rw to.2 (tt, tt)
step-ask w e (step.Render pick) to = render-ask w e (picked_flight pick is_unrendered w.flights) to
step-ask w e (step.Deliver pick) to = delivers-ask w e (picked_flight pick is_rendered w.flights) to
step-ask w e (step.Lose pick) to = loses-ask w e (picked_flight pick is_any w.flights) to
step-ask w e step.Purge to = purges-ask w e w.flushes to
step-ask w e step.Restart to = cut-ask (without_connections w) e.body (restart-cut w e.conditions e.body to)

-- ---- an event
opened-numbered : (w : RunState) (c : ℕ) (peer : List ℕ) (at : Option Connection) → Numbered w → Numbered (state_after_opening w c peer at)
opened-numbered w c peer (Some k) numbered = numbered
opened-numbered w c peer None numbered = by_room (nat_le most_connections w.connection_count)
  where
    by_room : (full : Bool) → Numbered (if full then w else record w { connection = update nat_eq w.connection c (Some (fresh peer)); connection_count = w.connection_count + 1 })
    by_room true = numbered
    by_room false = numbered

gone-numbered : (w : RunState) (c : ℕ) (at : Option Connection) → Numbered w → Numbered (state_after_going w c at)
gone-numbered w c None numbered = numbered
gone-numbered w c (Some k) numbered = numbered

pub begun-numbered : (w : RunState) (e : Event) (s : Step) → Numbered w → Numbered (state_before_notes w e s)
begun-numbered w e (step.Opened c peer) numbered = opened-numbered w c peer (w.connection c) numbered
begun-numbered w e (step.Piece c bytes) numbered = numbered
begun-numbered w e (step.Gone c) numbered = gone-numbered w c (w.connection c) numbered
begun-numbered w e step.Restart numbered = numbered
begun-numbered w e s numbered = numbered

pub step-numbered : (w : RunState) (e : Event) (s : Step) → Numbered w → HappensBy w e s → Numbered (state_after_notes (state_before_notes w e s) e.body)
step-numbered w e s numbered happens = notes-numbered (state_before_notes w e s) e.body (step-ask w e s happens) (begun-numbered w e s numbered)

pub run-numbered : (w : RunState) (events : List Event) → Numbered w → Run w events → Numbered (state_after_events w events)
run-numbered w [] numbered run = numbered
run-numbered w (e ∷ events) numbered run = run-numbered (after_event w e) events (step-numbered w e e.step numbered run.0.0) run.1

-- the flight that is picked is the one with its number
pub picked-there : (w : RunState) (test : Flying → Bool) (f : Flying) → Numbered w → find test w.flights ≡ Some f → flying_at f.number w.flights ≡ Some f
picked-there w test f numbered found = (picked-at w.flights 0 (flights_asked w.log) test f numbered found).0

-- ---- the law
pub are-rising : (least : ℕ) (flights : List Flying) (most : ℕ) → Rising flight_number least flights most → AirRises least flights most
are-rising least [] most rising = rising
are-rising least (f ∷ flights) most rising = (rising.0, are-rising f.number flights most rising.1)

pub flights-rising : (s : Start) (events : List Event) → Run (start_of s) events → AreFlightsRising (state_after_events (start_of s) events)
flights-rising s events run =
    let v = state_after_events (start_of s) events in
    are-rising 0 v.flights (flights_asked v.log) (run-numbered (start_of s) events (omega arith) run)
